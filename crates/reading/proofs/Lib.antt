pub mod Lines
pub mod Heads
pub mod Fills
pub mod Wells
