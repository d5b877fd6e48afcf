pub mod Accepted
pub mod Blind
pub mod Chains
pub mod Comparison
pub mod LeaderLaws
pub mod Refusals
pub mod TotalLaws
