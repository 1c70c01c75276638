pub mod Layout
pub mod Tag
pub mod Mem
pub mod Codes
pub mod Refused
