mod CoreExamples
pub mod Kin
pub mod Weighing
pub mod Opening
pub mod Moving
pub mod Stepping
pub mod Sounding
pub mod Ending
