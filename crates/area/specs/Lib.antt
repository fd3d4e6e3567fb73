pub mod Wrote
pub mod Cursors
