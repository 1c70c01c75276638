pub mod Taking
pub mod Pieces
pub mod States
pub mod Turns
pub mod Plays
