pub mod Taking
pub mod Zeros
