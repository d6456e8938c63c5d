pub mod Clients
mod ConstantReplies
pub mod Depths
mod Fields
mod Heads
pub mod Items
pub mod KeptForms
pub mod KeptItems
pub mod NotTexts
mod Objects
pub mod PublicNames
pub mod Queries
pub mod References
pub mod Starts
pub mod ValueForms
mod WorkedBodies
pub mod Yields
