-- Laws of counts and sums. Nothing of the protocol is in them.
pub mod Pigeonhole
