pub mod Faults
pub mod Links
pub mod Steps
pub mod Events
pub mod Rows
pub mod Asking
pub mod Words
