pub mod FormLaws
pub mod GoalLaws
pub mod NumberLaws
