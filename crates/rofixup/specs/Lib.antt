pub mod Fixups
pub mod parts
