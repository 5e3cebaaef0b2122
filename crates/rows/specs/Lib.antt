pub mod Bits
pub mod Held
pub mod Net
pub mod Rows
