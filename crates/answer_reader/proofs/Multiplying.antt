-- The product of a list that is read command by command: one command, and the loop with `Multiplying`, the product so far and what is left.
-- Proves that a command multiplies by what it lists, how the loop begins and goes on, and that it ends with the product of the whole list.
-- Assumes nothing.
use mathlib.Core.Path.{◌≡◌, refl, sym, ◌∙◌, ap, ap₂}
use Rattle.std.specs.Prelude.{Option, Some, None}
use mathlib.Core.List.{List, [], ◌∷◌, ◌++◌, map}
use mathlib.Core.Logic.{◌≢◌}
use Prim.Native.Nat.{ℕ, zero, suc, ◌≤◌, ◌<◌, ◌+◌, ◌*◌}
use native.Mathlib.Omega.{arith}
use lib.ListN.{length, get_or, replicate}
use borrow.Author.Tests.{ne_eqb}
use Rattle.specification.specs.Polynomials.{Poly}
use Rattle.specification.specs.Commands.{operand_count, commands}
use Rattle.specification.specs.FactorList.{factors_in, factor_list}
use Rattle.specification.specs.ReadOff.{degree_sum}
use Rattle.specification.specs.Limits.{◌²}
use Rattle.algebra.specs.Ring.{CommRing, mul_one}
use Rattle.algebra.specs.Divisibility.{pow, pow_zero, pow_suc, product_nil, product_cons}
use Rattle.algebra.specs.PolynomialRing.{◌·◌, x}
use Rattle.algebra.specs.CoefficientLists.{ℤ[x]/, poly, 𝓩[x]/}
use Rattle.arrays.specs.Listed.{listed, length_listed}
use Rattle.arrays.specs.Held.{MonicArray, poly_monic}
use Rattle.arrays.specs.MonomialArray.{IsMonomial, monomial_represents, monomial_monic}
use Rattle.lists.specs.Members.{all_cons}
use Rattle.layouts.specs.CommandsReadBack.{factors_past}
use Rattle.answer_reader.specs.declared.Factor.{Factor}
use Rattle.arrays.specs.declared.MonicPoly.{MonicPoly}
use Rattle.layouts.specs.CommandPlaces.{commands_from, command_at, place_after, commands_step, commands_end}
use Rattle.answer_reader.specs.Fits.{Fits}
use Rattle.answer_reader.specs.FoundInBytes.{factors_from, product_of, value, FactorOf, GrownBy, MultipliedAt, ProductOf}

abbrev 𝓐 : (n : ℕ) → CommRing (ℤ[x]/ n)
𝓐 n = 𝓩[x]/ n

-- ---- copies of a factor in an array, and then M

module _ {n e : ℕ} {b : List ℕ} (m : MonicArray n e b) (M : List Poly) where
  copies_degree : (t : ℕ) → degree_sum (replicate t (listed e b) ++ M) ≡ e * t + degree_sum M
  unfolding degree_sum
  copies_degree zero = omega arith
  copies_degree (suc t) = omega (arith, copies_degree t, length_listed e b (omega (arith, m.reduced.len, m.fits)))

  copies_product : (t : ℕ) → product_of n (replicate t (listed e b) ++ M) ≡ pow (𝓐 n) (poly n b) t · product_of n M
  copies_product zero = sym (ap (λ c. c · product_of n M) (pow_zero (𝓐 n) (poly n b)) ∙ (𝓐 n).*_one (product_of n M))
  copies_product (suc t) =
      product_cons (𝓐 n) (poly n (listed e b)) (map (poly n) (replicate t (listed e b) ++ M))
      ∙ ap₂ ◌·◌ (poly_monic m) (copies_product t)
      ∙ sym ((𝓐 n).*_assoc (poly n b) (pow (𝓐 n) (poly n b) t) (product_of n M)) ∙ ap (λ c. c · product_of n M) (sym (pow_suc (𝓐 n) (poly n b) t))

module _ (bytes : List ℕ) (p : ℕ) where
  abbrev n : ℕ
  n = p ²

  -- ---- one command

  module _ (at : ℕ) (a : MonicPoly) where
    abbrev after : List Poly
    after = factors_from bytes (place_after bytes at)

    -- no other command lists anything
    pub multiplied_other : at < length bytes → get_or bytes at 0 ≢ 0x12 → a.n ≡ n → MultipliedAt bytes at p a (Some a)
    multiplied_other l h m = record {
      sound = (m, ap (λ (L : List Poly). a.degree + degree_sum L) same, ap (λ (L : List Poly). value n a · product_of n L) same);
      exact = λ f room. refl;
    }
      where
        same : after ≡ factors_from bytes at
        same =
            sym (ap factors_in (commands_step bytes at l)
            ∙ factors_past (command_at bytes at ∷ []) (commands_from bytes (place_after bytes at))
            (all_cons (ne_eqb (get_or bytes at 0) 0x12 h) (λ c i. elim i [ ])))

    pub factor_missing : FactorOf bytes at p None → MultipliedAt bytes at p a None
    factor_missing h = record { sound = tt; exact = λ fit room. h.exact fit }

    module _ {f : Factor} (h : FactorOf bytes at p (Some f)) where
      monic : MonicArray n f.poly.degree f.poly.coefs
      monic = rw h.sound.0 at f.poly.monic

      weight : degree_sum (factors_from bytes at) ≡ f.poly.degree * f.times + degree_sum after
      weight = ap degree_sum h.sound.1 ∙ copies_degree monic after f.times

      listed_value : product_of n (factors_from bytes at) ≡ pow (𝓐 n) (value n f.poly) f.times · product_of n after
      listed_value = ap (product_of n) h.sound.1 ∙ copies_product monic after f.times

      pub multiplied_by : a.n ≡ n → (r : Option MonicPoly) → GrownBy a f r → MultipliedAt bytes at p a r
      multiplied_by m None g = record { sound = tt; exact = λ fit room. g.exact (omega (arith, weight)) }
      multiplied_by m (Some r) g =
          let (modulus, degree_is, is) = g.sound in
          let power : value n r ≡ value n a · pow (𝓐 n) (value n f.poly) f.times = rw m at is in
          let multiplies = ap (λ c. c · product_of n after) power ∙ (𝓐 n).*_assoc _ _ _ ∙ ap (λ c. value n a · c) (sym listed_value) in
          record { sound = (modulus ∙ m, omega (arith, degree_is, weight), multiplies); exact = λ fit room. refl }

  -- ---- the loop

  -- with what is left of the list, the product so far is that of the whole list
  pub record Multiplying (coefs : List ℕ) (degree at : ℕ) : Type 0 where
    pub array : MonicArray n degree coefs
    pub degrees : degree + degree_sum (factors_from bytes at) ≡ degree_sum (factor_list bytes)
    pub multiplies : poly n coefs · product_of n (factors_from bytes at) ≡ product_of n (factor_list bytes)
    pub left : Fits n (commands bytes) → Fits n (commands_from bytes at)

  pub multiplying_first : 1 < n → {coefs : List ℕ} → IsMonomial 0 coefs → Multiplying coefs 0 0
  unfolding factor_list
  multiplying_first large m = record {
    array = monomial_monic m large;
    degrees = omega arith;
    multiplies = ap (λ a. a · product_of n (factor_list bytes)) ((monomial_represents m large).is ∙ pow_zero (𝓐 n) x)
        ∙ (𝓐 n).*_one (product_of n (factor_list bytes));
    left = λ f. f;
  }

  pub product_found : {g : MonicPoly} {at : ℕ} → Multiplying g.coefs g.degree at → g.n ≡ n → length bytes ≤ at → ProductOf bytes p (Some g)
  product_found {g} {at} w m l = record { sound = (m, is); exact = λ f room. refl }
    where
      is : value n g ≡ product_of n (factor_list bytes)
      is =
          sym (mul_one (𝓐 n) (value n g))
          ∙ ap (λ a. value n g · a)
          (sym (ap (λ cs. product_of n (factors_in cs)) (commands_end bytes at l) ∙ (unfold factors_in in product_nil (𝓐 n))))
          ∙ w.multiplies

  module _ {a : MonicPoly} {at : ℕ} (w : Multiplying a.coefs a.degree at) (l : at < length bytes) where
    pub given_up : MultipliedAt bytes at p a None → ProductOf bytes p None
    given_up h = record { sound = tt; exact = λ f room. h.exact (w.left f) (omega (arith, w.degrees)) }

    pub multiplying_more : {r : MonicPoly} → MultipliedAt bytes at p a (Some r) → {k : ℕ} → k ≡ operand_count (get_or bytes at 0)
        → Multiplying r.coefs r.degree (at + (1 + k))
    multiplying_more {r} h {k} e = let (m, deg, is) = h.sound in rw e (record {
      array = rw m at r.monic;
      degrees = deg ∙ w.degrees;
      multiplies = is ∙ w.multiplies;
      left = λ f. (rw (commands_step bytes at l) at (w.left f)).1;
    })
