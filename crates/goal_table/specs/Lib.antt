pub mod Sets
pub mod Table
