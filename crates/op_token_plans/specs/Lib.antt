pub mod Answered
pub mod Asking
pub mod Incomings
pub mod Looks
pub mod Parts
pub mod Requests
pub mod Shown
