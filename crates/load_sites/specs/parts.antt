-- What contracts inside the program say: the contract of the top call cites none of it.
pub mod Answers
pub mod Descriptors
pub mod Funcs
pub mod Laws
pub mod Linker
pub mod Sites
pub mod Values
