pub mod Built
pub mod BuiltLaws
pub mod ModelContent
