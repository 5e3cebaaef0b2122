pub mod LayerLaws
pub mod CheckLaws
pub mod WriteLaws
pub mod NumberLaws
pub mod CopyLaws
pub mod Calls
