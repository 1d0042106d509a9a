mod Answers
pub mod Determined
pub mod Contracts
