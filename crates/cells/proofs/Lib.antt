pub mod CellLaws
pub mod HeldLaws
pub mod RowLaws
pub mod HeadLaws
pub mod EndLaws
