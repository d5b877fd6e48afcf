-- What is claimed. These definitions, and the rules that they name, must be believed.
pub mod History
pub mod Demand3
pub mod Carrying
