pub mod Remainder
pub mod Shift
