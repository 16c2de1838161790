pub mod Tops
pub mod Places
pub mod Cases
