pub mod Division
pub mod Worked
pub mod Paper
pub mod Determined
pub mod Contracts
mod Register
