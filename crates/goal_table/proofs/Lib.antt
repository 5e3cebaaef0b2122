pub mod LooseLaws
pub mod RestLaws
pub mod SetLaws
pub mod TableLaws
