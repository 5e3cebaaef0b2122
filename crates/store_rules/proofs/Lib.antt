pub mod ShelfLaws
pub mod PutLaws
pub mod ReachedLaws
