pub mod DerivedArrays
