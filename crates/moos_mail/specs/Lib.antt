pub mod Mailboxes
pub mod Registrations
pub mod Sentences
