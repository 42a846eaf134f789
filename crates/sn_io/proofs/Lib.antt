mod MemFilesLemmas
pub mod SinkLemmas
