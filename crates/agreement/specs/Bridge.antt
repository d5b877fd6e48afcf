-- From the bench to its view: each accepted record is one of the relations.
pub mod Places
pub mod Lengths
pub mod BenchView
pub mod AllButClose
pub mod Close
pub mod EveryEvent
pub mod RefusedBytes
