pub mod Starting
pub mod Runs
pub mod Targets
pub mod Closings
pub mod Appending
