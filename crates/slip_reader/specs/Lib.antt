pub mod Form
pub mod Claim
