pub mod NumberLaws
pub mod EntryLaws
