pub mod Lawful
pub mod Schedules
pub mod Plays
pub mod Steered
pub mod Runs
