-- `modp_radical::lowest` meets its contract. What z leaves of the rest is not 𝟎, since z does not divide the rest: so the gcd is not z.
-- Assumes nothing.
use Rattle.std.proofs.Common.{sym, subst, add-one, arith}
use Rattle.quotients.specs.Remainder.{remainder_nonzero}
use Rattle.modp_radical.specs.Radicals.{DivisorHeld, divisor_whole, quotient_divisor}
use Rattle.modp_radical.proofs.lowest.Goals as goal

pub returns-then-z-lt4 : goal.returns-then-z-lt4
returns-then-z-lt4 c = divisor_whole c.args.z c.requires.0

pub remainder-m-requires : goal.remainder-m-requires
remainder-m-requires c =
    let D = rw c.requires.2 at c.divide_out-t.ensures.0 in
    (D.reduced, omega (arith, c.divide_out-t.result.left.monic.fits), rw add-one D.monic.below)

pub quotient-q-requires : goal.quotient-q-requires
quotient-q-requires c = let (g, same) = c.common_divisor-g.ensures in (c.requires.1.large, same, g.right)

pub returns : goal.returns
returns c =
    let h = c.requires in
    let R = c.remainder-m.ensures in
    let rest = remainder_nonzero _ R (rw h.2 at c.divide_out-t.ensures.0).stops in
    let (Q, degree, same) = c.quotient-q.ensures in
    let divisor = quotient_divisor c.common_divisor-g.ensures.0 Q h.1 c.args.z.monic.monic R.small rest in
    (subst (DivisorHeld _ _ _ _) (sym degree) divisor, same)
