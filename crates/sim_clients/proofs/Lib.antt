pub mod Hearing
pub mod Ranging
pub mod Examples
pub mod Contacting
