pub mod ReasonLaws
pub mod NothingLaws
