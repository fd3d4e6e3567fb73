pub mod Levels
pub mod LineContracts
pub mod Gives
