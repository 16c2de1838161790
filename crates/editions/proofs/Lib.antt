pub mod AgainstLaws
pub mod HoldLaws
pub mod AgainLaws
pub mod NoteLaws
pub mod RunLaws
pub mod BetweenLaws
pub mod PartLaws
