pub mod Codes
pub mod AsSheet
