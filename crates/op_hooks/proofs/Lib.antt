pub mod Dues
pub mod Joined
