pub mod Legal
pub mod Placed
pub mod Space
pub mod parts
