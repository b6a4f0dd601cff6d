pub mod Draws
pub mod Generated
pub mod Stamps
pub mod Survey
