mod Examples
pub mod Facts
pub mod Counting
pub mod Cover
pub mod Bounds
pub mod Rises
pub mod Tops
pub mod PointTests
pub mod Cutting
pub mod Meetings
pub mod Keeping
pub mod Seeking
