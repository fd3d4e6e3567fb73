pub mod Represents
pub mod SameEntries
pub mod Sizes
pub mod Listed
pub mod Trimming
pub mod Held
pub mod Terms
pub mod MonomialArray
