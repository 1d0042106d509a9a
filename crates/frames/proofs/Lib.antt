pub mod Registers
pub mod Preambles
pub mod Parts
pub mod Sizes
pub mod Small
mod Says
pub mod Fronts
pub mod Trained
pub mod Acceptance
pub mod Readings
pub mod Writings
mod Seals
mod Wholes
mod Flips
pub mod Edits
mod Answers
mod Exact
pub mod Cited
pub mod DemandOne
pub mod DemandTwo
pub mod DemandThree
pub mod Codes
pub mod Temperatures
pub mod Told
pub mod Given
