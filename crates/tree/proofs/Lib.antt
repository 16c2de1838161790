pub mod MeasuredLaws
pub mod RunLaws
pub mod BlockLaws
pub mod CycleLaws
