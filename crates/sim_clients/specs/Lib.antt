pub mod Clients
pub mod Keeping
