mod Opened
mod Changes
mod Answers
pub mod Contracts
pub mod Determined
