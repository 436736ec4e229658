-- What contracts inside the program say: the contract of the top call cites none of it.
pub mod Inside
pub mod Links
pub mod Lists
pub mod Nodes
