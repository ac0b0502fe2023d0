pub mod PlansLaw
