pub mod NumberingLaws
pub mod PassLaws
pub mod RecordLaws
pub mod WeekLaws
