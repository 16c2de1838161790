pub mod Continue
pub mod Measure
pub mod Look
