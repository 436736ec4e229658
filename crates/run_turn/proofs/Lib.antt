mod CameTo
pub mod CallsInTurn
mod EmptiedPlaces
pub mod MappedBytes
pub mod ObeyedOn
pub mod QuietCalls
pub mod QuietSteps
pub mod QuietWalks
pub mod ServiceSteps
pub mod StopsKeep
