pub mod FitLemmas
pub mod NodeLemmas
