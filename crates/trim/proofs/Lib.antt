pub mod TrimLaws
pub mod LabelLaws
