pub mod Fronts
mod Steps
