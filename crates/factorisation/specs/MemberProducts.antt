-- Products over a list and its members.
-- Proves that a member divides the product, and what the product is where two factors replace a member, where all members are equal, and where
-- one more is inserted.
-- Assumes nothing.
use Rattle.std.specs.Prelude.{◌≡◌, refl, List, [], ◌∷◌, map, length}
use Rattle.std.proofs.Math.Path.{sym, ap}
use Rattle.std.proofs.Common.{◌∙◌, ap₂}
use mathlib.Core.List.Memᴰ.{head as here}
use mathlib.Core.List.Memᴰ.{tail as there}
use Rattle.lists.specs.Members.{◌∈◌, All, all_tail, replace}
use Rattle.lists.specs.Insertion.{Inserted}
use Rattle.algebra.specs.Ring.{CommRing, mul_assoc, mul_left_comm}
use Rattle.algebra.specs.Divisibility.{
  pow,
  pow_zero,
  pow_suc,
  product,
  product_nil,
  product_cons,
  product_map_append,
  ◌∣◌,
  divides_refl,
  divides_mul,
  divides_mul_right,
}

module _ {R : Type 0} (𝓡 : CommRing R) where
  pub replace_product : {a : R} {l : List R} (i : a ∈ l) {b c : R} → a ≡ 𝓡.mul b c → product 𝓡 (replace i b c) ≡ product 𝓡 l
  unfolding replace
  replace_product (here e) q = simp (product_cons, ← mul_assoc 𝓡, ← q, e)
  replace_product (there {x} {xs = l} i) {b} {c} q =
      product_cons 𝓡 x (replace i b c) ∙ ap (𝓡.mul x) (replace_product i q) ∙ sym (product_cons 𝓡 x l)

  pub member_divides : {a : R} {l : List R} → a ∈ l → ◌∣◌ 𝓡 a (product 𝓡 l)
  member_divides (here {x} {xs} e) = rw (e, product_cons 𝓡 x xs) (divides_mul_right 𝓡 (product 𝓡 xs) (divides_refl 𝓡 x))
  member_divides (there {x} {xs} i) = rw (product_cons 𝓡 x xs) (divides_mul 𝓡 x (member_divides i))

  -- all members are a: the product is a power of a
  pub product_equal : {a : R} (l : List R) → All (λ b. b ≡ a) l → product 𝓡 l ≡ pow 𝓡 a (length l)
  product_equal {a} [] h = product_nil 𝓡 ∙ sym (pow_zero 𝓡 a)
  product_equal {a} (b ∷ l) h =
      product_cons 𝓡 b l ∙ ap₂ 𝓡.mul (h b (here refl)) (product_equal l (all_tail h)) ∙ sym (pow_suc 𝓡 a (length l))

-- one more element in its place: the product has one more factor
pub inserted_product : {A R : Type 0} (before : A → A → Type 0) (𝓡 : CommRing R) (g : A → R) {x : A} {l r : List A} → Inserted before x l r
    → product 𝓡 (map g r) ≡ 𝓡.mul (g x) (product 𝓡 (map g l))
inserted_product before 𝓡 g i = simp (i.new, i.old, product_map_append, product_cons, mul_left_comm)
