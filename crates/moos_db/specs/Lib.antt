pub mod Clients
pub mod Database
pub mod Subscriptions
pub mod Places
pub mod Registering
pub mod Tables
pub mod Withdrawing
