pub mod Keeping
pub mod Numbered
pub mod Listed
pub mod Listing
pub mod Tabled
pub mod Exact
