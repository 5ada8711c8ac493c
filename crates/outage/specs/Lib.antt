pub mod Story
pub mod Content
pub mod History
pub mod Run
pub mod Words
