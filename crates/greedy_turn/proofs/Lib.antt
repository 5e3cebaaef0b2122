pub mod SameLaws
pub mod TurnLaws
