pub mod Placed
pub mod Putting
pub mod Parts
pub mod Lengths
pub mod Named
pub mod Joined
mod ObjectExamples
mod RelExamples
mod TableSizes
mod TablesJoined
mod ObjectLengths
mod FileJoined
mod HashBuilt
mod FilePlaced
