mod Named
mod Calls
pub mod DemandOne
pub mod DemandTwo
pub mod DemandThree
pub mod FromC
pub mod PowerFrames
