pub mod Fits
pub mod FoundInBytes
