pub mod CheckLaws
pub mod WithinLaws
