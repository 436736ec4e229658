-- What contracts inside the program say: the contract of the top call cites none of it.
pub mod Bounds
pub mod Contents
pub mod Facts
pub mod Needs
