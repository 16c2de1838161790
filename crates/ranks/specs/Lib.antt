pub mod Ranks
pub mod Sorting
pub mod View
pub mod Cases
