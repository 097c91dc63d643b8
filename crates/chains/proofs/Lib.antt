pub mod Turns
pub mod Three
