pub mod ArcOpened
pub mod RowsOpened
pub mod SavesLaws
pub mod ItemLaws
