-- What contracts inside the program say: the contract of the top call cites none of it.
pub mod Answers
pub mod Headers
pub mod Kept
pub mod Lists
pub mod Symbols
