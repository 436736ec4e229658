pub mod Holding
pub mod Imaged
pub mod Reached
pub mod Translated
