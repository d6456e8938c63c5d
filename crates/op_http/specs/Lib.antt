pub mod Head
pub mod Held
pub mod Lengths
pub mod Marks
pub mod Reader
pub mod Routers
pub mod Routes
