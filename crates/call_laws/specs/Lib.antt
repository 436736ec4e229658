pub mod BegunCalls
pub mod Calls
pub mod Schedules
pub mod TakenTurns
pub mod parts
