pub mod Laws
pub mod AllPlan
