pub mod Generated
pub mod Fields
pub mod Report
pub mod GeneratedLaws
pub mod JobCounts
pub mod JobCountsLaws
