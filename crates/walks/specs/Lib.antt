pub mod Lengths
pub mod Graph
pub mod Walk
pub mod Goals
pub mod Flat
