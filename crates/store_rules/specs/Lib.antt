pub mod Shelf
pub mod Store
