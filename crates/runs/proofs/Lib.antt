pub mod RunLengths
pub mod NoRun
pub mod RunsHold
