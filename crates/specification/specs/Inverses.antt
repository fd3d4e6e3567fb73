-- The inverse of a number modulo n: item 8 divides by m modulo p.
-- "The 6,027 inverses modulo these primes" are those of 1, 2, .., p − 1 modulo each taken prime p.
use Rattle.std.specs.Prelude.{ℕ, ◌*◌, ◌%◌, eqb}
use Rattle.specification.specs.Lists.{first, below}

-- the least b below n with b·a = 1 modulo n, and 0 where there is none
unfoldable pub inverse : ℕ → ℕ → ℕ
inverse n a = first (λ (b : ℕ). eqb (b * a % n) 1) 0 (below n)
