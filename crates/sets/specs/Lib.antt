pub mod Given
pub mod Opened
pub mod Layout
pub mod Words
pub mod View
pub mod Cases
