pub mod Inactive
pub mod Stopping
pub mod Overriding
pub mod Resting
pub mod SameInputs
pub mod Influencing
pub mod Silence
pub mod Desiring
pub mod Bargaining
pub mod Bounding
pub mod Mosts
pub mod Depths
pub mod Approaching
pub mod Faulting
pub mod Relying
mod Examples
