mod Arrays
mod Copied
pub mod Filed
mod Gathered
mod Greatest
mod Located
mod Low
mod Segmented
mod Sorting
