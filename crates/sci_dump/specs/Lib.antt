pub mod Dumps
pub mod Refusals
pub mod Text
pub mod Reading
pub mod Rules
pub mod ReadBack
pub mod Streams
