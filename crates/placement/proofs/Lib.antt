pub mod Rounding
pub mod Placing
pub mod Order
pub mod Rising
pub mod Holding
