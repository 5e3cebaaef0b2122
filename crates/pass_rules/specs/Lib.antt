pub mod Verdict
pub mod Route
pub mod Pass
pub mod Shortest
