pub mod Demands
pub mod PowerFrames
