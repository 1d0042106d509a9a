mod Assembled
mod Answers
pub mod Contracts
pub mod Determined
