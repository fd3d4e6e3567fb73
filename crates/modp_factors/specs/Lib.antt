pub mod Factors
pub mod Factoring
pub mod Pieces
pub mod Cutting
pub mod Taking
pub mod RootBases
pub mod Roots
