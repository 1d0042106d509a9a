pub mod Contracts
pub mod Determined
pub mod Hex
pub mod Laws
pub mod Numbers
pub mod Runs
pub mod Worked
