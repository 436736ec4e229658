pub mod Values
pub mod Contained
pub mod Looked
pub mod Leaving
pub mod Entered
pub mod Kept
