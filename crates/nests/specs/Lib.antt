pub mod Nesting
pub mod View
pub mod Faults
