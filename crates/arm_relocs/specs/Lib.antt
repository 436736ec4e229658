pub mod Branch
pub mod Value
