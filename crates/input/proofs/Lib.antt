pub mod Contracts
pub mod Determined
pub mod Laws
pub mod Worked
