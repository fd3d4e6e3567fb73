-- Theorems that rest on those of `specs/`, or on what stands there, which an edit there breaks.
pub mod Irreducible
pub mod IrreducibleDivisors
pub mod UniqueFactorisation
pub mod PrimaryParts
pub mod LongestLists
pub mod Blocks
pub mod FewestDifferent
pub mod Settings
