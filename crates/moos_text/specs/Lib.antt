pub mod Causes
pub mod Lines
pub mod Numbers
pub mod Pairs
pub mod Reading
pub mod Refusals
pub mod Sections
pub mod Standing
