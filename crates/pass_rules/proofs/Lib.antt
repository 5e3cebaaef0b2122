pub mod BoundLaws
pub mod VerdictLaws
pub mod SlipOfPass
pub mod RouteLaws
pub mod MetLaws
pub mod Demand2
pub mod WithinLaws
pub mod WroteLaws
