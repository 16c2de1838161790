pub mod MoveLaws
pub mod SectionLaws
