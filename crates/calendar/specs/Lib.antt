pub mod Calendar
pub mod Cases
pub mod PassLaws
pub mod RefusalLaws
