pub mod Entries
pub mod Overlaid
pub mod Moves
pub mod Meant
