pub mod Slots
pub mod Queue
pub mod Fates
pub mod Below
pub mod Queued
pub mod Sound
