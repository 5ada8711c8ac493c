pub mod Meaning
pub mod Faults
pub mod Power
pub mod Laws
