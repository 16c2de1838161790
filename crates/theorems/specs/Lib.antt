pub mod Covers
pub mod Changed
pub mod Deepest
pub mod Lists
pub mod Sound
