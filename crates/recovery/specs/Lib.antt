pub mod Walk
pub mod Cursor
pub mod Check
pub mod Undo
pub mod Undone
pub mod Kept
