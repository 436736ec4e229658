pub mod Edited
pub mod Chained
pub mod Families
pub mod Entered
pub mod Keeping
pub mod Changing
pub mod Owned
pub mod Walked
