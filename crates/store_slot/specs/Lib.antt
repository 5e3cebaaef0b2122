pub mod Slot
pub mod Lists
