-- The bench as functions of process numbers, each accepted record as a relation between two such views, and what
-- any step does to a view that is in order. `Basic` says what that is; that it stays so is the first invariant.
pub mod View
pub mod Basic
pub mod FourKinds
pub mod NewEstimate
pub mod Lasting
