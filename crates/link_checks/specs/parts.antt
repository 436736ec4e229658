-- What contracts inside the program say: the contract of the top call cites none of it.
pub mod Covered
pub mod Entry
pub mod Found
pub mod Shown
pub mod Sited
