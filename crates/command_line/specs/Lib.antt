pub mod Commands
pub mod Endings
pub mod Exit
pub mod Jobs
pub mod Turns
