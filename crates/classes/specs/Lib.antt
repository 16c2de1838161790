pub mod Choice
pub mod Classes
pub mod Last
