pub mod ArrayOrder
