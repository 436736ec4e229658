pub mod BegunProcess
pub mod RunEnds
pub mod RunParts
pub mod RunningProcess
pub mod StartAnswers
pub mod parts
