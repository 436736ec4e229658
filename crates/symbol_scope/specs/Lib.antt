pub mod Closure
pub mod Definition
pub mod Exported
pub mod Exports
pub mod Table
pub mod parts
