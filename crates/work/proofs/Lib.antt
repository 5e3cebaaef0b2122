pub mod ZeroLaws
pub mod LeftLaws
