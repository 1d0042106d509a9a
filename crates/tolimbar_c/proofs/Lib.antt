pub mod Contracts
pub mod Determined
pub mod FromC
