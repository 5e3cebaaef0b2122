pub mod SeveralLaws
pub mod RowRules
