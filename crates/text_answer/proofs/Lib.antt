pub mod ListLaws
pub mod SizeLaws
pub mod StruckLaws
pub mod SheetB
