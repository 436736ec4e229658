-- What contracts inside the program say: the contract of the top call cites none of it.
pub mod Depends
pub mod Entries
pub mod Fit
pub mod Frame
