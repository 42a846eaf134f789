pub mod CellText
pub mod FaultText
pub mod VerdictText
pub mod RefusalText
