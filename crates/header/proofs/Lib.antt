pub mod Fields
pub mod Good
pub mod Back
pub mod Again
