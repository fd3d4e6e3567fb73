pub mod Runs
pub mod Stuck
pub mod Standing
pub mod Completes
pub mod Stopping
pub mod Readings
pub mod TypedOutcomes
pub mod Trials
