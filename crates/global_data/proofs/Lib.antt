pub mod Laws
pub mod PassLaws
pub mod PassTurns
