-- What the theorem speaks of and rests on, in folders in the order in which to read them: each needs only those
-- before it. The theorem, and what of Histories rests on more than its words, is in ../proofs.
pub mod Statement
pub mod Numbers
pub mod View
pub mod Invariants
pub mod Bridge
pub mod Histories
