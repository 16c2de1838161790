pub mod Pairs
pub mod View
pub mod Cases
