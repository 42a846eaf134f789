pub mod Character
pub mod Fault
pub mod Form
pub mod Law
pub mod Opening
pub mod Reading
pub mod Split
