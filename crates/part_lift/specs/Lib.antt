pub mod Inverses
pub mod Quotients
pub mod Correction
pub mod Cuttable
pub mod FirstDivision
pub mod CutOff
