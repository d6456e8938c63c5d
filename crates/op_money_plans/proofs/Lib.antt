pub mod OutgoingPlans
pub mod TransferPlans
