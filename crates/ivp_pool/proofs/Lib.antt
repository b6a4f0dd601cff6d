mod Examples
mod DequeExamples
pub mod Lent
pub mod Roots
pub mod Knowing
pub mod Standing
pub mod Weights
pub mod Growing
pub mod Gluing
pub mod Hands
pub mod Teams
pub mod Members
pub mod Rows
pub mod Whole
pub mod Settling
pub mod Searching
pub mod Deciding
