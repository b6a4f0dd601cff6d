pub mod Examples
mod Following
mod Lines
mod Names
mod Valid
