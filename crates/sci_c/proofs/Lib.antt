pub mod Meaning
pub mod Looks
pub mod Meant
