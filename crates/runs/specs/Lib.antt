pub mod PowersOfX
pub mod RunLengths
pub mod Patterns
