mod Compared
mod Fails
mod Written
pub mod Filled
pub mod Lent
pub mod Told
pub mod Determined
pub mod Contracts
