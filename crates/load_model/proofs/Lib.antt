pub mod FirstFlags
pub mod PlanParts
