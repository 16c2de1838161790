pub mod OrderLaws
pub mod SortedLaws
pub mod PassLaws
pub mod RankLaws
pub mod MergeLaws
