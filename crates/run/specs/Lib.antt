pub mod Events
pub mod Reached
pub mod Turns
pub mod PlaceLaws
