pub mod Pieces
pub mod Keyed
pub mod Turning
