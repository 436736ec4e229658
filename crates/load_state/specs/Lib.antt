pub mod Accepted
pub mod Committed
pub mod Consistent
pub mod Loaded
pub mod ProgramLoad
pub mod Refused
pub mod Slots
pub mod parts
