-- A choice among associated elements, as the monic polynomials are: closed under products, and equal where associated.
-- Proves that powers and products of lists stay in the choice. Assumes nothing.
use Rattle.std.specs.Prelude.{◌≡◌, refl, List, [], ◌∷◌, ℕ, zero, suc}
use mathlib.Core.List.Memᴰ.{head as here}
use Rattle.algebra.specs.Ring.{CommRing}
use Rattle.algebra.specs.Divisibility.{pow, pow_zero, pow_suc, product, product_nil, product_cons}
use Rattle.lists.specs.Members.{All, all_tail}
use Rattle.factorisation.specs.PrimeElements.{Associated}

pub record Monics {R : Type 0} (𝓡 : CommRing R) (Monic : R → Type 0) : Type 0 where
  pub monic_one : Monic 𝓡.𝟙
  pub monic_mul : {a b : R} → Monic a → Monic b → Monic (𝓡.mul a b)
  pub equal : {a b : R} → Monic a → Monic b → Associated 𝓡 a b → a ≡ b

module _ {R : Type 0} {𝓡 : CommRing R} {Monic : R → Type 0} (M : Monics 𝓡 Monic) where
  pub monic_pow : {a : R} (n : ℕ) → Monic a → Monic (pow 𝓡 a n)
  monic_pow {a} zero h = rw (pow_zero 𝓡 a) M.monic_one
  monic_pow {a} (suc n) h = rw (pow_suc 𝓡 a n) (M.monic_mul h (monic_pow n h))

  pub monic_product : (l : List R) → All Monic l → Monic (product 𝓡 l)
  monic_product [] h = rw (product_nil 𝓡) M.monic_one
  monic_product (a ∷ l) h = rw (product_cons 𝓡 a l) (M.monic_mul (h a (here refl)) (monic_product l (all_tail h)))

-- a choice in each of two rings, kept by a map
pub record MonicMap {A B : Type 0} (𝓐 : CommRing A) (𝓑 : CommRing B) (bar : A → B) (MonicA : A → Type 0) (MonicB : B → Type 0) : Type 0 where
  pub above : Monics 𝓐 MonicA
  pub below : Monics 𝓑 MonicB
  pub bar_monic : {a : A} → MonicA a → MonicB (bar a)
