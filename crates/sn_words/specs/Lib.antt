pub mod Command
pub mod CommandLaws
pub mod Options
pub mod Reading
pub mod WordForms
