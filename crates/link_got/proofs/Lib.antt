pub mod Bounds
pub mod Keyed
pub mod OneLink
pub mod Rows
