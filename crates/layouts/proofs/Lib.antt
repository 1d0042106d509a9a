pub mod Entries
pub mod Places
pub mod Laid
pub mod Clocks
pub mod Sensors
pub mod Paper
pub mod Contracts
pub mod Determined
mod Found
mod Unrolled
mod Told
