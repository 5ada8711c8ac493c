pub mod Tests
pub mod Searches
