pub mod Chain
pub mod Given
pub mod Going
