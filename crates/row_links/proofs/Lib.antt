pub mod PackOpened
pub mod LinkLaws
