-- What contracts inside the program say: the contract of the top call cites none of it.
pub mod Buckets
pub mod Dropped
pub mod Inside
pub mod Laws
pub mod Slots
