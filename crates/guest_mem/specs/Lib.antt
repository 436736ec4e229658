pub mod Memory
pub mod Accesses
pub mod Ranges
pub mod parts
