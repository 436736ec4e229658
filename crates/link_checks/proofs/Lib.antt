pub mod Numbers
pub mod Marks
pub mod Passing
pub mod Sections
pub mod Gained
pub mod Heads
