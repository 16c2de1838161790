pub mod Markers
pub mod Lists
pub mod Cases
