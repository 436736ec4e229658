pub mod Lying
pub mod Finding
