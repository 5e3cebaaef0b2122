pub mod SheetB
pub mod CostLaws
