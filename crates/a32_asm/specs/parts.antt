-- What contracts inside the program say: the public ones cite none of it.
pub mod Fits
pub mod Answers
pub mod Made
pub mod Numbered
pub mod Reached
pub mod Standing
