pub mod Going
pub mod TakenOut
pub mod parts
