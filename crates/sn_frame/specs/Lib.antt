pub mod Matrix
pub mod Frame
pub mod Direction
pub mod Place
pub mod FrameLaws
