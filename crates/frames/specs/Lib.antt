pub mod Registers
pub mod Paper
pub mod Frames
pub mod Answers
pub mod Reading
pub mod Writing
pub mod Editing
