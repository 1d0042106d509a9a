pub mod Laws
pub mod Paper
pub mod Contracts
pub mod Determined
