pub mod Lines
pub mod Cases
pub mod Judged
pub mod Scheduled
pub mod Asked
