pub mod Avoids
pub mod Approach
pub mod Bounds
pub mod Contacts
pub mod Kept
pub mod RangeFiles
pub mod Reports
pub mod Standing
