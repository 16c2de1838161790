pub mod ChoiceLaws
pub mod FindLaws
pub mod LastLaws
pub mod ListLaws
pub mod TableLaws
