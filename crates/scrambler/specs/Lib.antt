pub mod Scrambler
pub mod Walk
pub mod Worked
