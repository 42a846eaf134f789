pub mod Agreement
pub mod AgreementExamples
pub mod AgreementLaws
pub mod Kept
pub mod Length
pub mod Program
pub mod ProgramLaws
