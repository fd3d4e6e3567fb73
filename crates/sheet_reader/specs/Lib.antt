pub mod AsSheetRead
pub mod Underway
pub mod Stages
