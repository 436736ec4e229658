pub mod Listing
pub mod RelListing
pub mod Shown
pub mod parts
