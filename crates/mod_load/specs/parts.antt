-- What contracts inside the program say: the contract of the top call cites none of it.
pub mod Accessors
pub mod EnteredAddresses
pub mod Fit
pub mod Loans
pub mod ReadyPlans
pub mod SlotWords
pub mod Targets
