pub mod Called
pub mod Listed
pub mod Offsets
pub mod Resolved
pub mod Rising
pub mod Slots
pub mod Whole
pub mod Within
