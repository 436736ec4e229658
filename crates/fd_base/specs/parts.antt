-- What contracts inside the program say: the contract of the top call cites none of it.
pub mod Calls
pub mod Entries
pub mod Host
pub mod IsName
pub mod Kept
