pub mod TakenLaws
pub mod LoadedLaws
