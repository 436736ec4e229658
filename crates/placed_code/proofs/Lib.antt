mod EmptyZips
pub mod ModulesPlaced
