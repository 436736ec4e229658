-- What contracts inside the program say: the contract of the top call cites none of it.
pub mod Bounds
pub mod Laws
pub mod Table
pub mod Words
