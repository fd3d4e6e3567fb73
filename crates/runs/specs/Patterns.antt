-- What the run length is for the pattern: k pulses multiply a state by x^k modulo f.
-- Proves that every state is again what it was after as many pulses, and the state 1 no sooner: `begins_again`, and `no_return` where the run is above
-- 65,535. Assumes nothing.
use Rattle.std.specs.Prelude.{◌≡◌, refl, ◌∷◌, ◌≢◌, get_or}
use Rattle.std.proofs.Common.{sym, ◌∙◌, ap, arith}
use Prim.Native.Nat.{ℕ, zero, suc, ◌≤◌, ◌<◌, ◌-◌}
use Rattle.std.proofs.lemmas.List.{length-replicate}
use Rattle.specification.specs.Polynomials as spec
use Rattle.specification.specs.Limits.{run_limit, ◌²}
use Rattle.specification.specs.RunLength.{run_length, pulse, pulses, state_one}
use Rattle.specification.specs.RunClaims.{State, BeginsAgainAfter}
use Rattle.lists.specs.Members.{all_entries, all_everywhere}
use Rattle.algebra.specs.Numbers.{square_large}
use Rattle.algebra.specs.Ring.{CommRing, one_mul, mul_one}
use Rattle.algebra.specs.Fields.{Prime}
use Rattle.algebra.specs.PolynomialRing.{◌·◌, 𝟏, x}
use Rattle.algebra.specs.Monomials.{x^, shift_zero, shift_suc}
use Rattle.algebra.specs.Congruence.{Congruent, congruent_equal, congruent_sym, congruent_trans, congruent_mul}
use Rattle.algebra.specs.CoefficientLists.{ℤ[x]/, 𝓩[x]/, poly, Reduced, poly_zero_cons}
use Rattle.algebra.specs.ListDivision.{poly_unit, remainder_reduced, remainder_congruent, congruent_same}
use Rattle.algebra.specs.ListShapes.{get_d_zeros}
use Rattle.items.specs.MonicLists.{MonicList, monic_poly}
use Rattle.runs.specs.PowersOfX.{One}
use Rattle.runs.specs.RunLengths.{run_found}

module _ {n : ℕ} (large : 1 < n) {d : ℕ} {f : spec.Poly} (m : MonicList n d f) where
  abbrev 𝓐 : CommRing (ℤ[x]/ n)
  𝓐 = 𝓩[x]/ n

  -- congruent modulo f
  infix 50 ◌≅◌
  abbrev ◌≅◌ : ℤ[x]/ n → ℤ[x]/ n → Type 0
  a ≅ b = Congruent 𝓐 (poly n f) a b

  pos : 0 < n
  pos = omega arith

  pulses_reduced : (k : ℕ) {s : spec.Poly} → Reduced n d s → Reduced n d (pulses n f k s)
  unfolding pulses pulse
  pulses_reduced zero r = r
  pulses_reduced (suc k) {s} r = remainder_reduced n pos d f m.reduced.len (monic_poly m) (0 ∷ pulses n f k s)

  pulse_congruent : (s : spec.Poly) → poly n (pulse n f s) ≅ x · poly n s
  unfolding pulse
  pulse_congruent s = rw (← poly_zero_cons n s) (remainder_congruent n pos d f m.reduced.len (monic_poly m) (0 ∷ s))

  pulses_congruent : (k : ℕ) (s : spec.Poly) → poly n (pulses n f k s) ≅ x^ k · poly n s
  unfolding pulses
  pulses_congruent zero s = congruent_equal 𝓐 (sym (shift_zero (poly n s)))
  pulses_congruent (suc k) s =
      congruent_trans 𝓐 (pulse_congruent (pulses n f k s))
      (congruent_trans 𝓐 (congruent_mul 𝓐 (congruent_equal 𝓐 refl) (pulses_congruent k s)) (congruent_equal 𝓐 (sym (shift_suc k (poly n s)))))

  -- x^k is 1: every state is again what it was
  state_again : (k : ℕ) → One n (poly n f) k → {s : spec.Poly} → Reduced n d s → pulses n f k s ≡ s
  state_again k h {s} r =
      congruent_same n pos d f m.reduced.len (monic_poly m) (pulses_reduced k r) r
      (congruent_trans 𝓐 (pulses_congruent k s)
      (congruent_trans 𝓐 (congruent_mul 𝓐 h (congruent_equal 𝓐 refl)) (congruent_equal 𝓐 (one_mul 𝓐 (poly n s)))))

  -- the state 1 is again 1: x^k is 1
  one_again : (k : ℕ) → pulses n f k (state_one f) ≡ state_one f → One n (poly n f) k
  one_again k e =
      congruent_trans 𝓐 (congruent_equal 𝓐 (sym (ap (λ a. x^ k · a) one ∙ mul_one 𝓐 (x^ k))))
      (congruent_trans 𝓐 (congruent_sym 𝓐 (pulses_congruent k (state_one f))) (congruent_equal 𝓐 (ap (poly n) e ∙ one)))
    where
      one : poly n (state_one f) ≡ 𝟏
      one = poly_unit n (spec.degree f - 1)

-- ---- as many pulses as the run length

state_reduced : {n : ℕ} → 0 < n → (f s : spec.Poly) → State n f s → Reduced n (spec.degree f) s
state_reduced {n} pos f s h = record {
  len = h.long;
  low = all_everywhere (λ a. a < n) 0 s pos (all_entries (λ a. a < n) 0 s h.reduced);
}

-- the state 1 is one
one_state : {n : ℕ} → 1 < n → (f : spec.Poly) → 1 ≤ spec.degree f → State n f (state_one f)
one_state {n} large f l = record {
  long = omega (arith, length-replicate {A = ℕ} (spec.degree f - 1) 0);
  reduced = λ i u. low i;
}
  where
    low : (i : ℕ) → get_or (state_one f) i 0 < n
    low zero = large
    low (suc i) = rw (get_d_zeros (spec.degree f - 1) i) (omega arith)

-- as many pulses as a power of x that is 1, and every state is what it was
pub run_returns : {p : ℕ} → Prime p → {f : spec.Poly} → MonicList (p ²) (spec.degree f) f → (k : ℕ) → One (p ²) (poly (p ²) f) k
    → (s : spec.Poly) → State (p ²) f s → pulses (p ²) f k s ≡ s
run_returns {p} prime {f} m k h s w =
    let large = square_large p prime.large in state_again large m k h (state_reduced (omega arith) f s w)

pub begins_again : {p : ℕ} → Prime p → {f : spec.Poly} → MonicList (p ²) (spec.degree f) f → 1 ≤ spec.degree f
    → 1 ≤ run_length p f → BeginsAgainAfter (p ²) f (run_length p f)
begins_again {p} prime {f} m d l =
    let large = square_large p prime.large in
    let r = run_found prime m in
    record {
      every = run_returns prime m (run_length p f) (r.holds l);
      one = one_state large f d;
      no_sooner = λ k u v e. let (w, t) = r.least k u (omega (arith, r.within)) (one_again large m k e) in omega arith;
    }

pub no_return : {p : ℕ} → Prime p → {f : spec.Poly} → MonicList (p ²) (spec.degree f) f → run_length p f ≡ 0
    → (k : ℕ) → 1 ≤ k → k ≤ run_limit → pulses (p ²) f k (state_one f) ≢ state_one f
no_return {p} prime {f} m z k u v e =
    let (w, t) = (run_found prime m).least k u v (one_again (square_large p prime.large) m k e) in omega (arith, z, w)
