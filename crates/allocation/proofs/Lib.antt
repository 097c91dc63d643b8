pub mod Placing
pub mod Words
