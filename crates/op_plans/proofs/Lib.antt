pub mod ProviderPlans
