pub mod Readings
pub mod Running
pub mod Summaries
pub mod Worked
