pub mod Keys
pub mod Items
