pub mod Stars
pub mod Tries
