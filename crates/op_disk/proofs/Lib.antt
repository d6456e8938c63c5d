mod Images
pub mod Moments
mod Replay
