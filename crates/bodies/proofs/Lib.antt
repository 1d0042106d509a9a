pub mod Laws
pub mod Changes
pub mod Determined
pub mod Contracts
mod Walk
