-- `parts::powers_of` meets its contract.
-- Assumes nothing.
use Rattle.std.proofs.Common.{arith}
use Rattle.algebra.specs.TakenPrimes.{is_prime_lem}
use Rattle.items.specs.Reductions.{bar_monic_lem}
use Rattle.parts.proofs.powers_of.Goals as goal

pub modulo-bar-requires : goal.modulo-bar-requires
modulo-bar-requires c = omega (arith, (is_prime_lem c.requires.prime).large)

pub invariant_of-factors : goal.invariant_of-factors
invariant_of-factors c =
    let m = c.requires in
    let b = c.modulo-bar.ensures in
    record {
      monic = record { fits = m.array.fits; reduced = b.reduced; monic = rw b.is (bar_monic_lem _ (is_prime_lem m.prime).large _ m.array.monic) };
    }
