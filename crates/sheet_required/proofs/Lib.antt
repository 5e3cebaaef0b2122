pub mod RequiredLaws
pub mod WholeLaws
