pub mod EndLaws
pub mod ToldLaws
