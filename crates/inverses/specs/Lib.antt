pub mod Unique
pub mod Rule
pub mod InverseTable
pub mod Answer
