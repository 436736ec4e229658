-- What contracts inside the program say: the contract of the top call cites none of it.
pub mod CommitSteps
pub mod Descriptors
pub mod Laws
pub mod Modules
pub mod Placeable
