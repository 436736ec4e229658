pub mod Addresses
pub mod Items
pub mod Places
pub mod parts
