pub mod Parse
pub mod Shows
pub mod Cases
