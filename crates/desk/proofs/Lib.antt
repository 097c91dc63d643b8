pub mod Programs
pub mod Enough
