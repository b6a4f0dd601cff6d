pub mod Missions
pub mod Places
pub mod Validity
