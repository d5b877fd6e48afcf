pub mod Theorem
pub mod Histories
pub mod Carrying
pub mod Refusals
