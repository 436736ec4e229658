-- What contracts inside the program say: the contract of the top call cites none of it.
pub mod Links
pub mod Large
pub mod Stages
