pub mod Table
pub mod Fields
pub mod Registers
pub mod Allowed
pub mod Decoding
pub mod Names
pub mod Immediate
pub mod Text
