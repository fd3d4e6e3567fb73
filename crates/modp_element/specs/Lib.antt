pub mod Images
pub mod Elements
