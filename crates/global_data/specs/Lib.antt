pub mod GlobalData
pub mod WordLaws
pub mod Rows
