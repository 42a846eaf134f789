pub mod LineActs
pub mod StateParts
pub mod StepLaws
