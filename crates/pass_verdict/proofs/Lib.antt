pub mod JudgeLaws
