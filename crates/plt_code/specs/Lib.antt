pub mod Table
pub mod Words
pub mod Standing
pub mod Entries
pub mod parts
