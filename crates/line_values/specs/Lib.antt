pub mod Worth
pub mod HeldNumbers
