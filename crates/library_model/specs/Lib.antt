pub mod Holding
pub mod Opens
pub mod Searches
pub mod Closes
pub mod parts
