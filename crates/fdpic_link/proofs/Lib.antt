pub mod Above
pub mod Stages
pub mod Objects
pub mod Fitting
pub mod Linking
