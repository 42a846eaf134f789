mod OptionLemmas
pub mod BoxLemmas
pub mod FindLemmas
pub mod JobLawLemmas
pub mod JobLemmas
pub mod PartsLemmas
pub mod RuleLemmas
pub mod SetupLawLemmas
pub mod SetupLemmas
pub mod StepsLemmas
pub mod ToolLemmas
