pub mod BehindLaws
pub mod FormLaws
pub mod ServeLaws
