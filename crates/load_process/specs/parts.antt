-- What contracts inside the program say: the contract of the top call cites none of it.
pub mod JoinLaws
pub mod LoadedProcess
pub mod TakenObjects
pub mod WalkLaws
pub mod WalkSteps
