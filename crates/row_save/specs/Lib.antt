pub mod Kept
pub mod Unmoved
