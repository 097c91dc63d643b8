pub mod Cutting
pub mod Heaps
