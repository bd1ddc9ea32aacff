pub mod Frame
pub mod FrameLaws
