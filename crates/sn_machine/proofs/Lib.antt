pub mod CountingLines
pub mod SteppingLines
