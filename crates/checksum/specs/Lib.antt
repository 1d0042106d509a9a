pub mod Checksum
pub mod Worked
