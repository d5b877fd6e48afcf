pub mod Numbers
pub mod ReachedLaws
