pub mod BitLaws
pub mod HeldLaws
pub mod ArcLaws
pub mod OpenLaws
pub mod RowLaws
pub mod WorkLaws
