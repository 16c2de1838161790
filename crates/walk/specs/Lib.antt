pub mod Fields
pub mod Bounds
pub mod Leaf
pub mod Table
pub mod Tree
pub mod Document
