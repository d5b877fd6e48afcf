-- What holds after every history of accepted records.
pub mod Append
pub mod Replay
pub mod InvariantsHold
pub mod OneEvent
pub mod GlobalDataCall
pub mod Contracts
pub mod CarryingCase
