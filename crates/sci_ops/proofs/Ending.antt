-- An operation that works alone ends.
pub mod Counting
pub mod Potential
pub mod Premise
pub mod Inverse
pub mod Rest
pub mod Moving
pub mod Entering
pub mod Writing
pub mod Leaving
pub mod Starting
pub mod Falls
pub mod Along
pub mod Turning
