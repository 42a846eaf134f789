mod Chains
mod FormLemmas
mod LongPolylines
mod PutLemmas
mod Proper
mod OutlineProofs
mod StepProofs
