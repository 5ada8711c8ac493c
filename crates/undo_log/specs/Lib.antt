pub mod Steps
pub mod Open
pub mod Closing
pub mod Append
pub mod Calls
