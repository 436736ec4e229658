pub mod Begins
pub mod FirstLive
mod LivePlaces
pub mod PassedTurns
mod QuietRuns
pub mod StartRefusals
pub mod RunEnds
pub mod RunParts
pub mod SettledTurns
pub mod TurnEnds
pub mod TurnLines
