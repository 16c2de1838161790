pub mod PieceLaws
pub mod HeldLaws
