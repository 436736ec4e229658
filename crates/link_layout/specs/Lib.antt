pub mod Layout
pub mod parts
