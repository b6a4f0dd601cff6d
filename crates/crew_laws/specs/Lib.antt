pub mod InTime
pub mod Fetches
pub mod Braking
pub mod Runs
pub mod Hearing
pub mod Races
pub mod Overrides
pub mod Inputs
