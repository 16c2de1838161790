pub mod ListLaws
pub mod CloseLaws
