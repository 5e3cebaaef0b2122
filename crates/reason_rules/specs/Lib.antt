pub mod Reason
pub mod Later
