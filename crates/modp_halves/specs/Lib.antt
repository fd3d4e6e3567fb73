pub mod Halves
pub mod PowersStored
pub mod Candidates
