pub mod MarkingLaws
pub mod SlipLaws
