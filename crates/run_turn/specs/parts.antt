-- What contracts inside the program say: the contract of the top call cites none of it.
pub mod CallsInProgress
pub mod Lookups
pub mod QuietCalls
pub mod QuietSteps
pub mod QuietTurns
pub mod Remainder
pub mod StopLaws
