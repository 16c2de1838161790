pub mod Text
pub mod Entries
