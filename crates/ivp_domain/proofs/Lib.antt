mod Examples
pub mod Ranges
pub mod BoxLemmas
pub mod Sizes
pub mod Padding
