pub mod Coming
pub mod Mails
pub mod Stopping
pub mod Stamping
pub mod Reading
pub mod Ticking
pub mod Ordering
pub mod Hearings
pub mod Alone
pub mod Obeying
pub mod Repeating
mod Examples
