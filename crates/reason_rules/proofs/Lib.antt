pub mod AnswerLaws
pub mod Demand3
pub mod Star
pub mod WithinLaws
