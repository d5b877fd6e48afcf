-- What the opened view has and every step keeps, and what follows from it in one view.
pub mod BasicKept
pub mod Estimates
pub mod Gap
pub mod Decisions
pub mod Safety
pub mod Agreement
pub mod NoMessageLost
pub mod QuietEnd
pub mod RecordBound
