pub mod Multiples
pub mod InPlace
