pub mod MonicMultiples
pub mod TakenOff
pub mod Remainders
pub mod RemainderRows
pub mod RowTakenOff
pub mod Next
pub mod CommonDivisors
