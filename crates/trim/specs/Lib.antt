pub mod Trim
pub mod Label
