pub mod Straight
pub mod Sound
