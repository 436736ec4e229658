pub mod Fields
pub mod Widths
pub mod Sound
pub mod Complete
pub mod RoundTrips
pub mod Parts
pub mod Rotations
pub mod Immediates
