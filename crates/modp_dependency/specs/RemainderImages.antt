-- Images that are remainders: `RemainderImages p q d s i images`, the first i images are the remainders of s 0, s 1, .. by q, of degree d.
-- Proves that a loop that stores them begins so and goes on so, and that such images are given to `least_dependency` and are those that the mathematics of
-- linear maps has. Assumes nothing.
use Rattle.std.specs.Prelude.{◌≡◌, List, [], ℕ, ◌<◌, ◌≤◌, ◌+◌, length, get_or, set, replicate}
use Rattle.std.proofs.Common.{◌∙◌, subst, le_antisymm, arith, length-set, get_or-set_same, get_or-set_other}
use Rattle.std.proofs.Math.Decide.{ℕ_discrete}
use Rattle.std.proofs.lemmas.List.{length-replicate}
use Rattle.algebra.specs.CoefficientLists.{ℤ[x]/, poly}
use Rattle.frobenius.specs.LinearMaps.{Remainders}
use Rattle.quotients.specs.Remainder.{Remainder}
use Rattle.modp_dependency.specs.StoredRows.{poly_at}
use Rattle.modp_dependency.specs.Dependency.{Images}

pub record RemainderImages (p : ℕ) (q : List ℕ) (d : ℕ) (s : ℕ → ℤ[x]/ p) (i : ℕ) (images : List (List ℕ)) : Type 0 where
  pub slots : length images ≡ 33
  pub each : (k : ℕ) → k < i → Remainder p q d (get_or images k []) (s k)

module _ {p : ℕ} {q : List ℕ} {d : ℕ} {s : ℕ → ℤ[x]/ p} where
  pub images_first : {image : List ℕ} → Remainder p q d image (s 0) → RemainderImages p q d s 1 (replicate 33 image)
  images_first {image} h = record { slots = length-replicate {A = List ℕ} 33 image; each = λ k l. at k (omega arith) }
    where
      at : (k : ℕ) → k ≡ 0 → Remainder p q d (get_or (replicate 33 image) k []) (s k)
      at k e = rw e h

  pub images_stored : {i : ℕ} {images : List (List ℕ)} {image : List ℕ} → i < 33 → RemainderImages p q d s i images → Remainder p q d image (s i)
      → RemainderImages p q d s (i + 1) (set images i image)
  images_stored {i} {images} {image} fits h hm = record { slots = length-set images i image ∙ h.slots; each = λ k u. at k u (ℕ_discrete k i) }
    where
      at : (k : ℕ) → k < i + 1 → Dec (k ≡ i) → Remainder p q d (get_or (set images i image) k []) (s k)
      at k u (yes e) = rw (e, get_or-set_same images i image [] (omega (arith, h.slots))) hm
      at k u (no ne) = rw (get_or-set_other images i k image [] ne) (h.each k (omega (arith, ne)))

  pub images_done : {i count : ℕ} {images : List (List ℕ)} → i ≤ count → count ≤ i → RemainderImages p q d s i images
      → RemainderImages p q d s count images
  images_done {images = images} l u h = subst (λ k. RemainderImages p q d s k images) (le_antisymm l u) h

  module _ {count : ℕ} {images : List (List ℕ)} (h : RemainderImages p q d s count images) where
    pub images_given : count ≤ 33 → Images p count d images
    images_given fits = record { long = omega (arith, h.slots); reduced = λ k l. (h.each k l).reduced; small = λ k l. (h.each k l).small }

    pub images_remainders : Remainders d (poly p q) count (poly_at p images) s
    images_remainders = record { small = λ k l. (h.each k l).small; same = λ k l. (h.each k l).congruent }
