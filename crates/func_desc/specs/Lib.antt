pub mod Functions
pub mod Pool
pub mod parts
