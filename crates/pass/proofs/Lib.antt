pub mod OutcomeLaws
pub mod AnswerLaws
pub mod Calls
