pub mod BytesLaws
pub mod Calls
