mod ConditionLemmas
mod DepthLemmas
mod NodeLemmas
mod OutcomeLemmas
mod PendingLemmas
mod StepLemmas
