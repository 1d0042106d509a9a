pub mod Numbers
pub mod Bytes
mod Groups
pub mod Fields
pub mod Xor
pub mod Determined
pub mod Contracts
mod Places
