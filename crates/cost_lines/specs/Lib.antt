pub mod Ask
pub mod Told
