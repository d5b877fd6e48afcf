pub mod Cases
pub mod LinesLaws
pub mod OpeningLaws
pub mod Output
pub mod OutputLaws
