pub mod Path
pub mod Reference
pub mod Sound
pub mod Target
pub mod Within
