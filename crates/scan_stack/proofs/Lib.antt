pub mod Fields
pub mod Masks
pub mod Working
