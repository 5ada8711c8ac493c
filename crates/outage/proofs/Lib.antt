pub mod Called
pub mod Steps
