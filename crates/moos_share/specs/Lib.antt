pub mod BridgeFiles
pub mod LongNames
pub mod Renaming
pub mod Carrying
pub mod Fetches
pub mod Bridged
pub mod Validity
