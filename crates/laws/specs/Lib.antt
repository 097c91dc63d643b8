pub mod Choice
pub mod Lists
pub mod Loop
pub mod Sums
pub mod Each
