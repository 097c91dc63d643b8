pub mod Lengths
pub mod Collected
