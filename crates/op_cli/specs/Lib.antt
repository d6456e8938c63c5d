pub mod Applies
pub mod Causes
pub mod Kept
pub mod Laws
pub mod Told
pub mod Turns
