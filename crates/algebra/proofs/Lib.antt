-- A theorem that rests on the one of `Fields` which an edit there breaks.
pub mod TakenPrimes
