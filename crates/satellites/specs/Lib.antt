pub mod Satellites
pub mod Paper
