-- Factoring Q modulo p: `Factoring p Q Ps a u`, Q is the product of the powers in Ps, in the order of item 3, and of a to the u, and a is coprime to their
-- bases; `FactoredBy`, the same of a `Factored`, where a has no roots.
-- Proves how it begins, that it goes on where a base is divided out of a and where a is a p-th power, and what it says at the end. Assumes nothing.
use Rattle.std.specs.Prelude.{◌≡◌, List, [], map, ◌⊎◌, ◌≢◌, ℕ, ◌≤◌, ◌+◌, ◌*◌, length}
use Rattle.std.proofs.Common.{sym, ◌∙◌, ap, ap₂, subst, ⊎_elim, arith}
use Rattle.specification.specs.Polynomials.{degree}
use Rattle.lists.specs.Members.{All}
use Rattle.lists.specs.InOrder.{InOrder, StrictOrder}
use Rattle.lists.specs.Insertion.{Inserted, inserted_all, inserted_in_order}
use Rattle.algebra.specs.Ring.{CommRing, one_mul, mul_one}
use Rattle.algebra.specs.Identities.{◌⊗◌, ◌≈◌, solve}
use Rattle.algebra.specs.Divisibility.{
  ◌∣◌,
  Coprime,
  pow,
  pow_one,
  pow_mul,
  pow_divides,
  pow_of_one,
  pow_of_product,
  product,
  product_nil,
  coprime_divisor,
  divides_mul,
  divides_refl,
  coprime_common,
}
use Rattle.algebra.specs.PolynomialRing.{◌·◌}
use Rattle.algebra.specs.Degree.{Monic, monic_zero}
use Rattle.algebra.specs.Fields.{Prime, residue_field, residue_nontrivial}
use Rattle.algebra.specs.CoefficientLists.{ℤ[x]/, poly, Reduced, 𝓩[x]/}
use Rattle.arrays.specs.Listed.{listed, degree_listed}
use Rattle.arrays.specs.Held.{held_monic, inside, poly_monic}
use Rattle.factorisation.specs.Irreducible.{irreducible_prime}
use Rattle.factorisation.specs.MonicDivisors.{monic_degree}
use Rattle.factorisation.specs.MemberProducts.{inserted_product}
use Rattle.frobenius.specs.NoRoots.{NoRoots}
use Rattle.items.specs.ItemOrder.{item_3, one_before}
use Rattle.modp_factors.specs.declared.Power.{Power}
use Rattle.modp_factors.specs.declared.Factored.{Factored}
use Rattle.modp_factors.specs.Factors.{Powers, held_powers, power_poly, PowerBefore, PowerHeld, FactorsOf}

-- a base and what is left have no divisor in common
abbrev Apart : {p : ℕ} → ℤ[x]/ p → Power → Type 0
Apart {p} a x = Coprime (𝓩[x]/ p) (poly p x.base) a

pub record Factoring (p : ℕ) (Q : ℤ[x]/ p) (Ps : List Power) (a : ℤ[x]/ p) (u : ℕ) : Type 0 where
  pub held : All (PowerHeld p) Ps
  pub in_order : InOrder PowerBefore Ps
  pub apart : All (Apart a) Ps
  pub multiplies : product (𝓩[x]/ p) (map (power_poly p) Ps) · pow (𝓩[x]/ p) a u ≡ Q

pub power_order : StrictOrder PowerBefore
power_order = record {
  irreflexive = λ {a = x} s. item_3.irreflexive {a = listed x.degree x.base} s;
  transitive = λ {a = x} {b = y} {c = z} s t.
      item_3.transitive {a = listed x.degree x.base} {b = listed y.degree y.base} {c = listed z.degree z.base} s t;
}

module _ {p : ℕ} (prime : Prime p) where
  abbrev 𝓑 : CommRing (ℤ[x]/ p)
  𝓑 = 𝓩[x]/ p

  pub factoring_none : (Q : ℤ[x]/ p) → Factoring p Q [] Q 1
  factoring_none Q = record {
    held = λ x i. elim i [ ];
    in_order = tt;
    apart = λ x i. elim i [ ];
    multiplies = ap₂ ◌·◌ (product_nil 𝓑) (pow_one 𝓑 Q) ∙ one_mul 𝓑 Q;
  }

  -- a is b to the p
  pub factoring_root : {Q a b : ℤ[x]/ p} {Ps : List Power} {u : ℕ} → Factoring p Q Ps a u → 1 ≤ p → pow 𝓑 b p ≡ a → Factoring p Q Ps b (u * p)
  factoring_root {a = a} {b} {Ps} {u} F l e = record {
    held = F.held;
    in_order = F.in_order;
    apart = λ x i. coprime_divisor 𝓑 divides (F.apart x i);
    multiplies = ap (λ c. product 𝓑 (map (power_poly p) Ps) · c) (pow_mul 𝓑 b u p ∙ ap (λ c. pow 𝓑 c u) e) ∙ F.multiplies;
  }
    where
      divides : ◌∣◌ 𝓑 b a
      divides = rw (← e) (subst (λ c. ◌∣◌ 𝓑 c (pow 𝓑 b p)) (pow_one 𝓑 b) (pow_divides 𝓑 b l))

  listed_positive : {x : Power} → PowerHeld p x → 1 ≤ degree (listed x.degree x.base)
  listed_positive {x} h =
      rw (degree_listed x.degree x.base (inside (held_monic h.array).shaped))
      (omega (arith, monic_degree (residue_nontrivial prime.large) h.array.monic h.irreducible.monic, h.irreducible.positive))

  -- the bases of two powers differ where a is coprime to one and a multiple of the other
  module _ {a : ℤ[x]/ p} {x y : Power} (hx : PowerHeld p x) (hy : PowerHeld p y) (c : Apart a y) (d : ◌∣◌ 𝓑 (poly p x.base) a) where
    lists_differ : listed x.degree x.base ≢ listed y.degree y.base
    lists_differ e =
        (irreducible_prime (residue_field p prime) hx.irreducible).nonunit
        (coprime_common 𝓑 (subst (λ g. Coprime 𝓑 g a) (sym same) c) (divides_refl 𝓑 (poly p x.base)) d)
      where
        same : poly p x.base ≡ poly p y.base
        same = sym (poly_monic hx.array) ∙ ap (poly p) e ∙ poly_monic hy.array

    one_first : PowerBefore x y ⊎ PowerBefore y x
    one_first = one_before {f = listed x.degree x.base} {g = listed y.degree y.base} (listed_positive hx) (listed_positive hy) lists_differ

  -- G, the base of x, is divided out of a as often as it goes, k times
  module _ {Q a b : ℤ[x]/ p} {Ps Rs : List Power} {x : Power} {u k : ℕ} (F : Factoring p Q Ps a u) (hx : PowerHeld p x) (pos : 1 ≤ k)
      (e : x.exponent ≡ u * k) (law : b · pow 𝓑 (poly p x.base) k ≡ a) (stops : ¬ ◌∣◌ 𝓑 (poly p x.base) b)
      (i : Inserted PowerBefore x Ps Rs) where
    abbrev G : ℤ[x]/ p
    G = poly p x.base

    base_divides : ◌∣◌ 𝓑 G a
    base_divides = rw (← law) (divides_mul 𝓑 b (subst (λ c. ◌∣◌ 𝓑 c (pow 𝓑 G k)) (pow_one 𝓑 G) (pow_divides 𝓑 G pos)))

    rest_divides : ◌∣◌ 𝓑 b a
    rest_divides = (pow 𝓑 G k, 𝓑.*_comm (pow 𝓑 G k) b ∙ law)

    joined : pow 𝓑 G x.exponent · product 𝓑 (map (power_poly p) Ps) · pow 𝓑 b u ≡ product 𝓑 (map (power_poly p) Ps) · pow 𝓑 a u
    joined =
        ap (λ c. c · product 𝓑 (map (power_poly p) Ps) · pow 𝓑 b u) (ap (pow 𝓑 G) e ∙ pow_mul 𝓑 G u k)
        ∙ solve 𝓑 3 (λ g q r. g ⊗ q ⊗ r ≈ q ⊗ (r ⊗ g)) tt (pow 𝓑 (pow 𝓑 G k) u) (product 𝓑 (map (power_poly p) Ps)) (pow 𝓑 b u)
        ∙ ap (λ c. product 𝓑 (map (power_poly p) Ps) · c) (sym (pow_of_product 𝓑 b (pow 𝓑 G k) u) ∙ ap (λ c. pow 𝓑 c u) law)

    pub factoring_more : Factoring p Q Rs b u
    factoring_more = record {
      held = inserted_all PowerBefore (PowerHeld p) i hx F.held;
      in_order = inserted_in_order PowerBefore power_order i F.in_order (λ y j. one_first hx (F.held y j) (F.apart y j) base_divides);
      apart = inserted_all PowerBefore (Apart b) i
          (⊎_elim (λ d. absurd (stops d)) (λ c. c) ((irreducible_prime (residue_field p prime) hx.irreducible).test b))
          (λ y j. coprime_divisor 𝓑 rest_divides (F.apart y j));
      multiplies = ap (λ c. c · pow 𝓑 b u) (inserted_product PowerBefore 𝓑 (power_poly p) i) ∙ joined ∙ F.multiplies;
    }

  -- nothing is left
  factoring_done : {Q a : ℤ[x]/ p} {r : Powers} {u : ℕ} → Factoring p Q (held_powers r) a u → length (held_powers r) ≤ 32 → Monic 0 a → FactorsOf p Q r
  factoring_done {a = a} {r} {u} F few m = record {
    few = few;
    held = F.held;
    in_order = F.in_order;
    multiplies = sym (mul_one 𝓑 (product 𝓑 (map (power_poly p) (held_powers r))))
        ∙ ap (λ c. product 𝓑 (map (power_poly p) (held_powers r)) · c) (sym (pow_of_one 𝓑 u) ∙ ap (λ c. pow 𝓑 c u) (sym (monic_zero m)))
        ∙ F.multiplies;
  }

-- the powers of r and what it leaves, to the u
pub record FactoredBy (p : ℕ) (Q : ℤ[x]/ p) (u : ℕ) (r : Factored) : Type 0 where
  pub modulus : r.rest.n ≡ p
  pub factoring : Factoring p Q (held_powers r.powers) (poly p r.rest.coefs) u
  pub reduced : Reduced p 33 r.rest.coefs
  pub monic : Monic r.rest.degree (poly p r.rest.coefs)
  pub no_roots : NoRoots p (poly p r.rest.coefs)
  pub room : length (held_powers r.powers) + r.rest.degree ≤ 32
  pub unit : 1 ≤ u
  pub small : u * r.rest.degree ≤ 32

pub factored_done : {p : ℕ} → Prime p → {Q : ℤ[x]/ p} {u : ℕ} {r : Factored} → FactoredBy p Q u r → r.rest.degree ≤ 0 → FactorsOf p Q r.powers
factored_done {p} prime {r = r} F l =
    factoring_done prime F.factoring (omega (arith, F.room))
    (subst (λ (k : ℕ). Monic k (poly p r.rest.coefs)) (let z : r.rest.degree ≡ 0 = omega arith in z) F.monic)
