mod Examples
mod Drawing
pub mod Rising
pub mod Validity
mod Variables
