pub mod Fields
pub mod Format
pub mod Given
pub mod Job
pub mod Limits
pub mod Statement
pub mod parts
