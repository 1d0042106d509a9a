pub mod Documents
pub mod Fields
pub mod Names
