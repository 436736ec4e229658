pub mod Loaded
pub mod Meaning
pub mod parts
