-- What contracts inside the program say: the contract of the top call cites none of it.
pub mod FinishedBytes
pub mod Layout
pub mod LinkedLoad
pub mod NoPlaces
pub mod Tables
pub mod Targets
