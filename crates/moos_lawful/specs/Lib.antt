pub mod Schedules
pub mod Answering
pub mod Widening
