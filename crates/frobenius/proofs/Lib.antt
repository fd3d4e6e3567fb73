-- Theorems that rest on those of `specs/` which an edit there breaks.
pub mod Span
pub mod LeastDependency
pub mod SquareFreeQuotients
