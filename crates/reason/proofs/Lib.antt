pub mod ItemLaws
pub mod SaidLaws
pub mod Calls
