-- The run length: the least k from 1 to 65,535 for which x^k is congruent to 1 modulo f.
-- Proves that the specification's `run_length` is that number, that one number only is that of `RunIs`, and, where p does not divide the constant
-- coefficient, that there is a run. Assumes nothing.
use Rattle.std.specs.Prelude.{◌≡◌, ℕ, ◌≤◌, ◌<◌, ◌-◌, ◌^◌, T}
use Rattle.std.proofs.Common.{sym, ap, arith}
use mathlib.Core.List.{List-discrete}
use Rattle.std.proofs.Math.Decide.{ℕ_discrete}
use Rattle.specification.specs.Limits.{run_limit, ◌²}
use Rattle.specification.specs.Polynomials as spec
use Rattle.specification.specs.Powers.{polynomials}
use Rattle.specification.specs.RunLength.{power_less_one, run_length, has_run}
use Rattle.specification.specs.RunClaims.{DividesPower, RunIs}
use Rattle.lists.specs.Members.{◌∈◌}
use Rattle.lists.specs.Least.{Least, least_same, least_only, least_first}
use Rattle.lists.specs.Pigeonhole.{Twice, two_equal}
use Rattle.algebra.specs.Ring.{CommRing}
use Rattle.algebra.specs.Numbers.{square_large}
use Rattle.algebra.specs.Fields.{Prime}
use Rattle.algebra.specs.Monomials.{x^}
use Rattle.algebra.specs.Congruence.{Congruent, congruent_equal, congruent_sym, congruent_trans}
use Rattle.algebra.specs.CoefficientLists.{ℤ[x]/, 𝓩[x]/, poly, poly_monomial}
use Rattle.algebra.specs.ListDivision.{remainder_reduced, remainder_congruent}
use Rattle.items.specs.MonicLists.{MonicList, monic_poly}
use Rattle.items.specs.Enumeration.{polynomials_has, length_polynomials}
use Rattle.runs.specs.PowersOfX.{One, powers_apart, x_coprime, test_one}

pub run_limit_lem : (p : ℕ) (f : spec.Poly) → run_length p f ≤ run_limit
unfolding run_length
run_limit_lem p f = (least_first _ run_limit).within

-- the claim is that of a least number
pub run_least : {p : ℕ} {f : spec.Poly} {r : ℕ} → RunIs p f r → Least (DividesPower (p ²) f) run_limit r
run_least h = record { within = h.within; holds = h.divides; least = h.least }

-- one number only
pub run_unique : {p : ℕ} {f : spec.Poly} {r s : ℕ} → RunIs p f r → RunIs p f s → r ≡ s
run_unique h g = least_only (run_least h) (run_least g)

module _ {p : ℕ} (prime : Prime p) {d : ℕ} {f : spec.Poly} (m : MonicList (p ²) d f) where
  large : 1 < p ²
  large = square_large p prime.large

  pub run_found : Least (One (p ²) (poly (p ²) f)) run_limit (run_length p f)
  unfolding run_length
  run_found = least_same (λ k l. test_one large m k) (least_first (λ (k : ℕ). spec.divides (p ²) f (power_less_one (p ²) k)) run_limit)

  -- so whatever is the least such number is the run length
  pub run_by : {r : ℕ} → Least (One (p ²) (poly (p ²) f)) run_limit r → r ≡ run_length p f
  run_by h = least_only h run_found

  -- ---- a run exists

  abbrev 𝓐 : CommRing (ℤ[x]/ (p ²))
  𝓐 = 𝓩[x]/ (p ²)

  pos : 0 < p ²
  pos = omega (arith, large)

  -- x^i, as a list below f
  state : ℕ → spec.Poly
  state i = spec.remainder (p ²) f (spec.monomial i)

  state_listed : (i : ℕ) → state i ∈ polynomials (p ²) d
  unfolding state
  state_listed i = polynomials_has (p ²) pos d (state i) (remainder_reduced (p ²) pos d f m.reduced.len (monic_poly m) (spec.monomial i))

  state_power : (i : ℕ) → Congruent 𝓐 (poly (p ²) f) (poly (p ²) (state i)) (x^ i)
  unfolding state
  state_power i = rw (← poly_monomial (p ²) i) (remainder_congruent (p ²) pos d f m.reduced.len (monic_poly m) (spec.monomial i))

  -- equal states, congruent powers
  powers_agree : (i j : ℕ) → state i ≡ state j → Congruent 𝓐 (poly (p ²) f) (x^ j) (x^ i)
  powers_agree i j e =
      congruent_trans 𝓐 (congruent_sym 𝓐 (state_power j))
      (congruent_trans 𝓐 (congruent_equal 𝓐 (ap (poly (p ²)) (sym e))) (state_power i))

  -- there are more powers up to the bound than states
  pub run_within : T (has_run p f) → (k : ℕ) × (1 ≤ k) × (k ≤ (p ²) ^ d) × One (p ²) (poly (p ²) f) k
  run_within begins =
      from (two_equal (List-discrete ℕ_discrete) ((p ²) ^ d) (polynomials (p ²) d) (length_polynomials (p ²) d) state (λ i l. state_listed i))
    where
      from : Twice state ((p ²) ^ d) → (k : ℕ) × (1 ≤ k) × (k ≤ (p ²) ^ d) × One (p ²) (poly (p ²) f) k
      from t = (
        t.j - t.i,
        omega (arith, t.apart),
        omega (arith, t.within),
        powers_apart (poly (p ²) f) t.i t.j (t.j - t.i) (omega (arith, t.apart)) (x_coprime prime f begins) (powers_agree t.i t.j t.equal),
      )
