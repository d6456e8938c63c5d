pub mod Lists
pub mod Accounts
pub mod Floors
pub mod MakingActs
pub mod Known
pub mod Pieces
pub mod Renewed
pub mod Zero
pub mod Telescopes
pub mod StepAnswers
pub mod Intervals
pub mod Placed
pub mod Paying
pub mod Covered
pub mod Caps
pub mod AllLaws
pub mod Received
mod WorkedLaws
