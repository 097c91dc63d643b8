pub mod Leaves
pub mod Run
pub mod Whole
pub mod Desks
