pub mod Places
pub mod parts
