pub mod Bytes
pub mod Identify
pub mod Numbers
