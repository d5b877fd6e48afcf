pub mod Steps
pub mod Fields
pub mod Laws
pub mod ClosingLaws
pub mod Cases
