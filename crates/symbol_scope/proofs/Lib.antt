pub mod Growing
pub mod Closed
pub mod Finding
pub mod Filling
pub mod Indexing
pub mod Marking
