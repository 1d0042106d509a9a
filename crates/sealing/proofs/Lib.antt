pub mod Laws
pub mod Lent
mod Opening
mod Sealing
pub mod Determined
pub mod Contracts
