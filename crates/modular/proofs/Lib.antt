pub mod AddMultiple
pub mod Entrywise
pub mod ProductLoop
