-- What contracts inside the program say: the contract of the top call cites none of it.
pub mod Blocks
pub mod Data
pub mod Gathering
pub mod Got
pub mod Heads
pub mod Lying
pub mod NeedList
pub mod NeedTable
