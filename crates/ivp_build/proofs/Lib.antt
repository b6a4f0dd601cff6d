mod Examples
pub mod Heights
pub mod Lines
pub mod Rises
pub mod Runs
pub mod Zones
pub mod Crests
pub mod Tiles
pub mod Steps
pub mod Bands
pub mod Lawful
pub mod Searches
pub mod Circles
pub mod GoodAxes
pub mod Widths
pub mod Profiles
pub mod Nearest
pub mod Meets
pub mod Totals
pub mod Sides
mod SumExamples
mod SampledExamples
pub mod Sampling
pub mod Casts
pub mod Samples
pub mod Covers
pub mod Worths
pub mod FirstNearest
pub mod Rooms
