-- Turns that nobody comes between bring a line to rest.
pub mod Finding
pub mod Reading
pub mod Going
pub mod Waiting
pub mod Ranking
pub mod Falling
pub mod Keeping
pub mod Turning
pub mod Ends
pub mod Row
