pub mod Hash
pub mod Numbers
pub mod Texts
pub mod Tokens
