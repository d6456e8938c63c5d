pub mod Changes
pub mod Counters
pub mod Finding
pub mod Indexing
pub mod IntervalTexts
pub mod LimitFacts
pub mod Numbered
pub mod SecretLaw
pub mod MaySpend
pub mod SpendingLaw
pub mod TokenLaw
pub mod TokenLists
mod Worked
