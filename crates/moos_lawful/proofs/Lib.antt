pub mod Rising
pub mod Going
pub mod Parts
pub mod Playable
pub mod Stepping
pub mod Widening
pub mod Further
pub mod Examples
