pub mod VerdictFound
