pub mod AnswerLaws
pub mod CheckedLaws
