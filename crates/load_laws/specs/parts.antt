-- What contracts inside the program say: the contract of the top call cites none of it.
pub mod ConsistencyLaws
pub mod DescriptorLaws
pub mod Grounds
pub mod ImageFrame
pub mod LoadLaws
pub mod Premises
pub mod StepLaws
