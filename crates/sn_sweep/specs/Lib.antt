pub mod Causes
pub mod Checking
pub mod Judging
pub mod Kept
pub mod Left
pub mod Pieces
