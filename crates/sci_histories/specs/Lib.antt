pub mod Histories
pub mod Each
pub mod Rules
pub mod Counts
pub mod Table
pub mod Text
pub mod Reading
pub mod ReadBack
