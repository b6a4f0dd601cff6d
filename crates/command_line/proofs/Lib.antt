pub mod Examples
pub mod Finding
pub mod Joining
pub mod Loading
pub mod Taking
