pub mod Image
pub mod Maps
pub mod Translation
pub mod Whole
pub mod parts
