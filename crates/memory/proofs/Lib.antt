pub mod Ways
pub mod Told
