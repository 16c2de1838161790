pub mod HoldLaws
pub mod ReadLaws
pub mod AnswerLaws
