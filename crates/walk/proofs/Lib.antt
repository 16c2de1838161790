pub mod WithinLaws
pub mod FieldLaws
pub mod LineLaws
pub mod KeptLaws
