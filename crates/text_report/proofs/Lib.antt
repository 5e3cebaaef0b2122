pub mod SlipTextLaws
pub mod AnswerLaws
pub mod SizeLaws
