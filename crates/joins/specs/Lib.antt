pub mod Joins
pub mod View
pub mod Cases
