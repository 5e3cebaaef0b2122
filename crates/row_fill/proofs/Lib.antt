pub mod TurnLaws
pub mod FillLaws
