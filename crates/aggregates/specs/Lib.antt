pub mod Aggregates
pub mod Answers
pub mod Cases
pub mod Change
pub mod Entries
pub mod Leader
pub mod Search
pub mod TotalLaws
