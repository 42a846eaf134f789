pub mod GoodLaws
pub mod Layout
pub mod LayoutExamples
pub mod LayoutLaws
pub mod LineLaws
pub mod PlanActs
pub mod Text
pub mod TextLaws
