pub mod Reciprocals
pub mod Widths
pub mod InverseDescent
