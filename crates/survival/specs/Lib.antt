pub mod Held
pub mod Proper
pub mod Orderly
pub mod Survives
pub mod Calls
