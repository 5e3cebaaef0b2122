pub mod Claim
pub mod Numbers
