pub mod NumberLaws
pub mod LookLaws
pub mod MeasureLaws
