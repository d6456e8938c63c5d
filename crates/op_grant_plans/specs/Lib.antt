pub mod Callers
pub mod GrantPlans
pub mod Asking
