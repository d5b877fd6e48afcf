pub mod OneRecord
pub mod StepLaws
