pub mod Tests
pub mod Says
pub mod Refusals
pub mod Answered
pub mod Contracts
pub mod Determined
