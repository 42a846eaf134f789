pub mod Condition
pub mod ConditionLaws
pub mod Node
pub mod NodeLaws
pub mod Pending
pub mod Walk
pub mod WalkLaws
