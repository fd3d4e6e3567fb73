-- `modp_element::images` meets its contract. The loop has power = x^(p·i) modulo q.
-- Assumes nothing.
use Rattle.algebra.specs.Monomials.{x^}
use Rattle.frobenius.specs.FrobeniusPowers.{◌^ᴿ◌}
use Rattle.quotients.specs.Remainder.{Remainder}
use Rattle.modp_element.specs.Images.{PowerImages}
use Rattle.modp_element.proofs.images.Given as goal

abbrev pub invariant-loop-i : goal.invariant-loop-i
invariant-loop-i l = PowerImages l.q.n l.q.coefs l.q.degree l.i l.r × Remainder l.q.n l.q.coefs l.q.degree l.power (x^ l.q.n ^ᴿ l.i)
