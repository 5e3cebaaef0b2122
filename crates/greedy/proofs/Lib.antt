pub mod CopyLaws
pub mod ListingLaws
pub mod ListedLaws
pub mod PlaceLaws
