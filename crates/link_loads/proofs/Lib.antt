pub mod Modules
pub mod Plans
