pub mod Listed
pub mod Named
pub mod Pairwise
pub mod Ranged
