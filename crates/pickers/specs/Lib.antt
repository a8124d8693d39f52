pub mod Fills
pub mod Frames
pub mod Meaning
pub mod Turns
pub mod Waits
pub mod FrameLaw
pub mod Rows
pub mod Waiting
