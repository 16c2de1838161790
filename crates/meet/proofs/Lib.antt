pub mod WordLaws
pub mod MetLaws
pub mod AdmitLaws
pub mod SettleLaws
pub mod ReadyLaws
