pub mod PrefixLaws
pub mod EnterLaws
pub mod ExitLaws
