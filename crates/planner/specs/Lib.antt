pub mod Layer
pub mod Check
pub mod Write
pub mod Copied
