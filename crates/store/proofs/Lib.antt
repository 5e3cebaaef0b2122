pub mod EarliestLaws
pub mod HeldLaws
pub mod ResultLaws
pub mod BaseLaws
pub mod LegLaws
pub mod PuttingLaws
pub mod AskingLaws
pub mod EmptyLaws
