-- What contracts inside the program say: the contract of the top call cites none of it.
pub mod Answered
pub mod Kept
pub mod Tags
pub mod View
