-- What contracts inside the program say: the contracts of the writers cite none of it.
pub mod Sizes
pub mod ObjectSizes
pub mod SmallObject
