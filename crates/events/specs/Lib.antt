pub mod Names
pub mod State
pub mod Events
pub mod View
pub mod Pack
pub mod Each
