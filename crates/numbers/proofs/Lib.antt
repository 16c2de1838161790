pub mod NumberLaws
pub mod RomanLaws
pub mod RunLaws
