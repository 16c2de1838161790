pub mod MachineLaws
pub mod NextLaws
