pub mod Lists
pub mod Grouping
pub mod Interned
pub mod Prefixes
pub mod Sections
pub mod Tested
pub mod Agreeing
pub mod Finding
