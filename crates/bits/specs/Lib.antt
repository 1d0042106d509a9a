pub mod Bits
pub mod Located
pub mod Worked
