pub mod Values
pub mod LinearDivision
pub mod BinomialDivision
pub mod DividedOut
