pub mod Keys
pub mod View
