pub mod ListLaws
pub mod ModeLaws
pub mod SameLaws
