pub mod Apart
pub mod Vectors
pub mod Blocks
