pub mod RecordLaws
pub mod RoundLaws
