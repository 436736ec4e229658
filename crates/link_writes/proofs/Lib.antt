pub mod Tested
pub mod Texts
mod Aligned
pub mod Segmented
mod Pairs
mod Filled
pub mod Sites
mod Sounding
pub mod Seen
mod Relocated
pub mod Fields
pub mod Writable
pub mod Symbols
