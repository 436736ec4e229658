pub mod EntryExamples
pub mod NewPools
pub mod SiteObjects
