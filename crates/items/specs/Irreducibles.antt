-- Irreducible lists and irreducible polynomials over ℤ/p are the same thing.
-- Proves that the polynomial of an irreducible list is irreducible, so a prime element, and the list of an irreducible polynomial irreducible.
-- Assumes nothing.
use Rattle.std.proofs.Common.{sym, ◌∙◌, ap, ap₂, arith}
use Rattle.std.specs.Prelude.{ℕ, suc, ◌<◌}
use Rattle.specification.specs.Polynomials as spec
use Rattle.specification.specs.Longest as claimed
use Rattle.algebra.specs.Residues.{Residues}
use Rattle.algebra.specs.PolynomialRing.{◌·◌}
use Rattle.algebra.specs.Degree.{monic_mul_lem}
use Rattle.algebra.specs.Fields.{Prime, residue_field, residue_nontrivial}
use Rattle.algebra.specs.CoefficientLists.{ℤ[x]/, poly, poly_mul, 𝓩[x]/}
use Rattle.factorisation.specs.MonicDivisors.{monic_degree}
use Rattle.factorisation.specs.PrimeElements.{PrimeElement}
use Rattle.factorisation.specs.Irreducible.{Irreducible, irreducible_prime}
use Rattle.items.specs.MonicLists.{list, poly_list, from_claimed, to_claimed, list_monic, monic_poly, monic_list_mul, monic_same}

pub irreducible_poly : {p : ℕ} → 1 < p → {G : spec.Poly} → claimed.Irreducible p G → Irreducible {𝓡 = Residues p} (poly p G)
irreducible_poly {p} large {G} I = record {
  degree = spec.degree G;
  positive = I.monic.positive;
  monic = monic_poly (from_claimed (omega arith) I.monic);
  no_product = λ {d} {e} {a} {b} ma mb ld le q.
      let u : spec.Poly = list (suc d) a in
      let v : spec.Poly = list (suc e) b in
      let mu = list_monic large ma in
      let mv = list_monic large mb in
      I.no_product u v (to_claimed ld mu) (to_claimed le mv)
      (monic_same
      (monic_degree (residue_nontrivial large) (monic_mul_lem ma mb) (rw q (monic_poly (from_claimed (omega arith) I.monic))))
      (monic_list_mul large mu mv) (from_claimed (omega arith) I.monic)
      (poly_mul p (omega arith) u v ∙ ap₂ ◌·◌ (poly_list (suc d) a ma.below) (poly_list (suc e) b mb.below) ∙ q));
}

pub irreducible_list : {p : ℕ} → 1 < p → {G : ℤ[x]/ p} (I : Irreducible G) → claimed.Irreducible p (list (suc I.degree) G)
irreducible_list {p} large {G} I = record {
  monic = to_claimed I.positive (list_monic large I.monic);
  no_product = λ a b ma mb q.
      I.no_product (monic_poly (from_claimed (omega arith) ma)) (monic_poly (from_claimed (omega arith) mb)) ma.positive mb.positive
      (sym (poly_mul p (omega arith) a b) ∙ ap (poly p) q ∙ poly_list (suc I.degree) G I.monic.below);
}

pub prime_poly : {p : ℕ} → Prime p → {G : spec.Poly} → claimed.Irreducible p G → PrimeElement (𝓩[x]/ p) (poly p G)
prime_poly {p} prime I = irreducible_prime (residue_field p prime) (irreducible_poly prime.large I)
