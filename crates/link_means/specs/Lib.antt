pub mod Values
pub mod Means
pub mod Linked
pub mod parts
