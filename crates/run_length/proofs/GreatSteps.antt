-- The loop of `run_length`: `Steps n q d g j`, g is x^(1024·j) modulo q, and no run was found up to 1024·(j − 1).
-- Proves how it begins, goes on and ends, and that what is given back is the specification's run length. Assumes nothing.
use mathlib.Core.Path.{◌≡◌, sym, ◌∙◌, ap, subst}
use mathlib.Core.List.{List}
use mathlib.Core.Logic.{⊎_elim}
use Prim.Native.Nat.{ℕ, ◌≤◌, ◌<◌, ◌-◌, ◌+◌, ◌*◌}
use native.Mathlib.Omega.{arith}
use lib.Dec.{T}
use Rattle.specification.specs.Limits.{run_limit, ◌²}
use Rattle.specification.specs.RunLength.{run_length, has_run}
use Rattle.lists.specs.Least.{Least, least_none, least_found}
use Rattle.algebra.specs.Numbers.{lt_or_le, square_large}
use Rattle.algebra.specs.Divisibility.{Coprime, pow_add}
use Rattle.algebra.specs.TakenPrimes.{is_prime_lem}
use Rattle.algebra.specs.PolynomialRing.{◌·◌, x}
use Rattle.algebra.specs.CoefficientLists.{poly, 𝓩[x]/}
use Rattle.algebra.specs.Congruence.{Congruent, congruent_sym, congruent_trans, congruent_mul}
use Rattle.algebra.specs.Monomials.{x^}
use Rattle.arrays.specs.Listed.{listed}
use Rattle.arrays.specs.Held.{MonicModSquare, poly_monic}
use Rattle.items.specs.ArrayLists.{square_list}
use Rattle.runs.specs.PowersOfX.{One, x_coprime, powers_apart, one_shifts}
use Rattle.runs.specs.RunLengths.{run_by}
use Rattle.quotients.specs.Remainder.{Remainder, remainder_as}
use Rattle.run_length.specs.Marks.{small_steps}
use Rattle.run_length.specs.Meetings.{NoneFrom, MeetingAt}

-- how many great steps are made: the last is x^65536
abbrev pub great_steps : ℕ
great_steps = 64

pub record Steps (n : ℕ) (q : List ℕ) (d : ℕ) (g : List ℕ) (j : ℕ) : Type 0 where
  pub first : 1 ≤ j
  pub last : j ≤ great_steps + 1
  pub great : Remainder n q d g (x^ (j * small_steps))
  pub none : (k : ℕ) → 1 ≤ k → k ≤ (j - 1) * small_steps → ¬ One n (poly n q) k

module _ {n : ℕ} {q : List ℕ} {d : ℕ} where
  pub steps_none : {g : List ℕ} → Remainder n q d g (x^ small_steps) → Steps n q d g 1
  steps_none {g} h = record { first = omega arith; last = omega arith; great = h; none = λ k l u. absurd (omega arith) }

  module _ {g : List ℕ} {i j : ℕ} (S : Steps n q d g j) (F : NoneFrom n q g i) where
    -- a run k is met at 1024·j − k
    not_met : (k : ℕ) → 1 ≤ k → k + i ≤ j * small_steps → ¬ One n (poly n q) k
    not_met k l u o = ⊎_elim new (λ v. S.none k l v o) (lt_or_le ((j - 1) * small_steps) k)
      where
        e : ℕ
        e = j * small_steps - k

        new : (j - 1) * small_steps < k → ⊥
        new v =
            F.after e (omega arith) (omega (arith, S.first))
            (congruent_trans (𝓩[x]/ n) S.great.congruent (one_shifts (poly n q) e (j * small_steps) k (omega arith) o))

    pub steps_more : {y v : List ℕ} → i ≤ 0 → j ≤ great_steps → Remainder n q d y (x^ small_steps) → Remainder n q d v (poly n g · poly n y)
        → Steps n q d v (j + 1)
    steps_more {y} {v} z l hy hv = record {
      first = omega arith;
      last = omega arith;
      great = remainder_as n hv product;
      none = λ k u w o. not_met k u (omega arith) o;
    }
      where
        product : Congruent (𝓩[x]/ n) (poly n q) (poly n g · poly n y) (x^ ((j + 1) * small_steps))
        product =
            subst (Congruent (𝓩[x]/ n) (poly n q) (poly n g · poly n y))
            (sym (pow_add (𝓩[x]/ n) x (j * small_steps) small_steps)
            ∙ ap (λ (m : ℕ). x^ m) (let t : j * small_steps + small_steps ≡ (j + 1) * small_steps = omega arith in t))
            (congruent_mul (𝓩[x]/ n) S.great.congruent hy.congruent)

  met : {g : List ℕ} {i j : ℕ} → Steps n q d g j → MeetingAt n q g i → Coprime (𝓩[x]/ n) (poly n q) x → One n (poly n q) (j * small_steps - i)
  met {i = i} {j} S M c =
      powers_apart (poly n q) i (j * small_steps) (j * small_steps - i) (omega (arith, M.none.within, S.first)) c
      (congruent_trans (𝓩[x]/ n) (congruent_sym (𝓩[x]/ n) S.great.congruent) M.here)

-- ---- what is given back

module _ {p : ℕ} {f : List ℕ} {d : ℕ} (given : MonicModSquare p f d) where
  pub modulus : 1 < p ²
  modulus = square_large p (is_prime_lem given.prime).large

  same : poly (p ²) (listed d f) ≡ poly (p ²) f
  same = poly_monic given.array

  result : {r : ℕ} → Least (One (p ²) (poly (p ²) f)) run_limit r → r ≡ run_length p (listed d f)
  result {r} h = run_by (is_prime_lem given.prime) (square_list given) (subst (λ a. Least (One (p ²) a) run_limit r) (sym same) h)

  module _ {g : List ℕ} {i j : ℕ} (S : Steps (p ²) f d g j) (M : MeetingAt (p ²) f g i) where
    pub run_met : T (has_run p (listed d f)) → j * small_steps - i ≤ run_limit → j * small_steps - i ≡ run_length p (listed d f)
    run_met begins l =
        result (least_found (omega (arith, M.none.within, S.first)) l (met S M coprime)
        (λ k u v. not_met S M.none k u (omega (arith, M.none.within, S.first))))
      where
        coprime : Coprime (𝓩[x]/ (p ²)) (poly (p ²) f) x
        coprime = subst (λ a. Coprime (𝓩[x]/ (p ²)) a x) same (x_coprime (is_prime_lem given.prime) (listed d f) begins)

    -- the run is 65,536
    pub run_too_long : j ≤ great_steps → run_limit < j * small_steps - i → 0 ≡ run_length p (listed d f)
    run_too_long last l = result (least_none (λ k u v. not_met S M.none k u (omega (arith, M.none.within, S.first))))

  pub run_none : {g : List ℕ} {j : ℕ} → Steps (p ²) f d g j → great_steps < j → 0 ≡ run_length p (listed d f)
  run_none S l = result (least_none (λ k u v. S.none k u (omega arith)))
