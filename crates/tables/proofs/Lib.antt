pub mod CaptionLaws
pub mod TableLaws
