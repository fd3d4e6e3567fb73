pub mod Given
pub mod ArrayValues
