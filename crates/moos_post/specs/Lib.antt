pub mod Batches
pub mod Delivery
pub mod Entries
pub mod History
pub mod Patterns
pub mod Words
