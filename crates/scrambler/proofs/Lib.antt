pub mod Laws
pub mod Parts
pub mod Places
pub mod Worked
pub mod Contracts
pub mod Determined
mod Held
mod Turn
mod Passing
