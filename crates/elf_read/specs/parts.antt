-- What contracts inside the program say: the contract of the top call cites none of it.
pub mod Fixups
pub mod Functions
pub mod HeaderTables
pub mod Passes
pub mod Reads
pub mod Stages
pub mod Strings
pub mod Tables
pub mod Taken
