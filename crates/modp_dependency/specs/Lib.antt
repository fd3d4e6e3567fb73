pub mod StoredRows
pub mod Reduction
pub mod Storing
pub mod Dependency
pub mod RemainderImages
