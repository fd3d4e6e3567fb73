-- The parts of a tree, and the tests of 16 and 17 said of all parts: `Small` and `Low`.
-- Proves `AnyPart`, what `any_part` finds; that a tree is `Small` where no part is large, and `Low` where none is too high, and conversely.
-- Assumes nothing.
use Rattle.std.specs.Prelude.{◌≡◌, refl, ◌⊎◌, Bool, true, false, not, ◌&&◌, ◌||◌, ℕ, ◌+◌, ◌*◌, ◌≤◌, ltb}
use Rattle.std.proofs.Common.{sym, subst, inl, inr, ltb-false, le-ltb}
use Rattle.std.proofs.Math.Dec.{T}
use Rattle.specification.specs.Limits.{degree_limit, number_limit, exponent_limit}
use Rattle.specification.specs.Polynomials.{is_zero}
use Rattle.specification.specs.Grammar.{Tree, number, variable, power, times, plus, minus}
use Rattle.specification.specs.TypedLines.{meaning, any_part, is_large, is_high, degree_of}
use Rattle.specification.specs.TypedClaims.{PartOf, itself, in_power, left_of_times, right_of_times, left_of_plus, right_of_plus, left_of_minus, right_of_minus}
use Rattle.specification.specs.TypedClaims.{AnyPart, Small, Low}
use Rattle.lists.specs.Tests.{passes, fails, contrary, or_left, or_right, either}

-- ---- some part

module _ (test : Tree → Bool) where
  -- a part that passes
  abbrev Passing : Tree → Type 0
  Passing t = (u : Tree) × PartOf u t × (test u ≡ true)

  here : (t : Tree) → T (test t) → Passing t
  here t h = (t, itself refl, passes (test t) h)

  in_part : {a t : Tree} → ((u : Tree) → PartOf u a → PartOf u t) → Passing a → Passing t
  in_part f (u, w, e) = (u, f u w, e)

  -- of two parts and the whole
  in_either : (a b t : Tree) → ((u : Tree) → PartOf u a → PartOf u t) → ((u : Tree) → PartOf u b → PartOf u t)
      → (T (any_part test a) → Passing a) → (T (any_part test b) → Passing b) → T (any_part test a || any_part test b || test t) → Passing t
  in_either a b t f g p q h = at (either (any_part test a || any_part test b) (test t) h)
    where
      inside : T (any_part test a) ⊎ T (any_part test b) → Passing t
      inside (inl i) = in_part f (p i)
      inside (inr i) = in_part g (q i)

      at : T (any_part test a || any_part test b) ⊎ T (test t) → Passing t
      at (inl i) = inside (either (any_part test a) (any_part test b) i)
      at (inr i) = here t i

  part_found : (t : Tree) → T (any_part test t) → Passing t
  unfolding any_part
  part_found (number n) h = here (number n) h
  part_found variable h = here variable h
  part_found (power t e) h = at (either (any_part test t) (test (power t e)) h) (part_found t)
    where
      at : T (any_part test t) ⊎ T (test (power t e)) → (T (any_part test t) → Passing t) → Passing (power t e)
      at (inl i) f = in_part (λ _ w. in_power w) (f i)
      at (inr i) f = here (power t e) i
  part_found (times a b) h = in_either a b (times a b) (λ _ w. left_of_times w) (λ _ w. right_of_times w) (part_found a) (part_found b) h
  part_found (plus a b) h = in_either a b (plus a b) (λ _ w. left_of_plus w) (λ _ w. right_of_plus w) (part_found a) (part_found b) h
  part_found (minus a b) h = in_either a b (minus a b) (λ _ w. left_of_minus w) (λ _ w. right_of_minus w) (part_found a) (part_found b) h

  itself_passes : (t : Tree) → T (test t) → T (any_part test t)
  unfolding any_part
  itself_passes (number n) h = h
  itself_passes variable h = h
  itself_passes (power t e) h = or_right (any_part test t) (test (power t e)) h
  itself_passes (times a b) h = or_right (any_part test a || any_part test b) (test (times a b)) h
  itself_passes (plus a b) h = or_right (any_part test a || any_part test b) (test (plus a b)) h
  itself_passes (minus a b) h = or_right (any_part test a || any_part test b) (test (minus a b)) h

  -- of the first and of the second of two parts
  first : (a b : Tree) (t : Bool) → T (any_part test a) → T (any_part test a || any_part test b || t)
  first a b t h = or_left (any_part test a || any_part test b) t (or_left (any_part test a) (any_part test b) h)

  second : (a b : Tree) (t : Bool) → T (any_part test b) → T (any_part test a || any_part test b || t)
  second a b t h = or_left (any_part test a || any_part test b) t (or_right (any_part test a) (any_part test b) h)

  part_passes : {u t : Tree} → PartOf u t → T (test u) → T (any_part test t)
  unfolding any_part
  part_passes {t = t} (itself e) h = itself_passes t (subst (λ (v : Tree). T (test v)) e h)
  part_passes (in_power {t = t} {e = e} w) h = or_left (any_part test t) (test (power t e)) (part_passes w h)
  part_passes (left_of_times {a = a} {b = b} w) h = first a b (test (times a b)) (part_passes w h)
  part_passes (right_of_times {a = a} {b = b} w) h = second a b (test (times a b)) (part_passes w h)
  part_passes (left_of_plus {a = a} {b = b} w) h = first a b (test (plus a b)) (part_passes w h)
  part_passes (right_of_plus {a = a} {b = b} w) h = second a b (test (plus a b)) (part_passes w h)
  part_passes (left_of_minus {a = a} {b = b} w) h = first a b (test (minus a b)) (part_passes w h)
  part_passes (right_of_minus {a = a} {b = b} w) h = second a b (test (minus a b)) (part_passes w h)

  -- no part passes
  none_passes : {u t : Tree} → any_part test t ≡ false → PartOf u t → test u ≡ false
  none_passes {u} {t} e w = fails (test u) (λ h. contrary e (passes (any_part test t) (part_passes w h)))

  all_fail : (t : Tree) → ((u : Tree) → PartOf u t → test u ≡ false) → any_part test t ≡ false
  all_fail t h = fails (any_part test t) (λ i. let p = part_found t i in contrary (h p.0 p.1) p.2)

pub true_passes : {b : Bool} → b ≡ true → T b
true_passes e = subst T (sym e) tt

pub any_part_lem : AnyPart
any_part_lem test t = (
  (λ e. part_found test t (true_passes e)),
  (λ p. passes (any_part test t) (part_passes test p.1 (true_passes p.2))),
)

-- ---- 16

pub small_is : {p : ℕ} {t : Tree} → p ≤ number_limit → any_part is_large t ≡ false → Small p t
unfolding is_large
small_is l e = record {
  prime = l;
  numbers = λ n w. ltb-false number_limit n (none_passes is_large e w);
  exponents = λ u n w. ltb-false exponent_limit n (none_passes is_large e w);
}

small_part_lem : {p : ℕ} {t : Tree} → Small p t → (u : Tree) → PartOf u t → is_large u ≡ false
unfolding is_large
small_part_lem s (number n) w = le-ltb number_limit n (s.numbers n w)
small_part_lem s variable w = refl
small_part_lem s (power u e) w = le-ltb exponent_limit e (s.exponents u e w)
small_part_lem s (times a b) w = refl
small_part_lem s (plus a b) w = refl
small_part_lem s (minus a b) w = refl

pub small_parts : {p : ℕ} {t : Tree} → Small p t → any_part is_large t ≡ false
small_parts {p} {t} s = all_fail is_large t (small_part_lem s)

-- ---- 17

high_power : (z : Bool) (m : ℕ) → not z && ltb degree_limit m ≡ false → (z ≡ true) ⊎ (m ≤ degree_limit)
high_power true m e = inl refl
high_power false m e = inr (ltb-false degree_limit m e)

low_power : (z : Bool) (m : ℕ) → (z ≡ true) ⊎ (m ≤ degree_limit) → not z && ltb degree_limit m ≡ false
low_power true m h = refl
low_power false m (inl e) = contrary refl e
low_power false m (inr l) = le-ltb degree_limit m l

high_product : (y z : Bool) (m : ℕ) → not y && not z && ltb degree_limit m ≡ false → (y ≡ true) ⊎ (z ≡ true) ⊎ (m ≤ degree_limit)
high_product true z m e = inl refl
high_product false z m e = inr (high_power z m e)

low_product : (y z : Bool) (m : ℕ) → (y ≡ true) ⊎ (z ≡ true) ⊎ (m ≤ degree_limit) → not y && not z && ltb degree_limit m ≡ false
low_product true z m h = refl
low_product false z m (inl e) = contrary refl e
low_product false z m (inr h) = low_power z m h

pub low_is : {p : ℕ} {t : Tree} → any_part (is_high p) t ≡ false → Low p t
unfolding is_high
low_is {p} e = record {
  powers = λ u n w. high_power (is_zero (meaning p u)) (n * degree_of (meaning p u)) (none_passes (is_high p) e w);
  products = λ a b w. high_product (is_zero (meaning p a)) (is_zero (meaning p b)) (degree_of (meaning p a) + degree_of (meaning p b)) (none_passes (is_high p) e w);
}

low_part : {p : ℕ} {t : Tree} → Low p t → (u : Tree) → PartOf u t → is_high p u ≡ false
unfolding is_high
low_part s (number n) w = refl
low_part s variable w = refl
low_part {p} s (power u e) w = low_power (is_zero (meaning p u)) (e * degree_of (meaning p u)) (s.powers u e w)
low_part {p} s (times a b) w =
    low_product (is_zero (meaning p a)) (is_zero (meaning p b)) (degree_of (meaning p a) + degree_of (meaning p b)) (s.products a b w)
low_part s (plus a b) w = refl
low_part s (minus a b) w = refl

pub low_parts : {p : ℕ} {t : Tree} → Low p t → any_part (is_high p) t ≡ false
low_parts {p} {t} s = all_fail (is_high p) t (low_part s)
