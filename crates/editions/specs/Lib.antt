pub mod Editions
pub mod View
pub mod Cases
