-- The loop of `images`: `PowerImages p q d i images`, the first i images are the remainders of x^(p·k) − x^k by q.
-- Proves how the powers x^(p·k) are made, and that the loop begins so and goes on so. Assumes nothing.
use Rattle.std.specs.Prelude.{◌≡◌, refl, List, ℕ, ◌<◌, ◌-◌, ◌+◌, ◌%◌, get_or, set, replicate}
use Rattle.std.proofs.Common.{sym, ◌∙◌, ap, ap₂, mod-lt}
use Rattle.algebra.specs.Ring.{mul_one, add_neg}
use Rattle.algebra.specs.Divisibility.{pow, pow_zero, pow_one}
use Rattle.algebra.specs.Residues.{residue, residue_add, residue_mod}
use Rattle.algebra.specs.PolynomialRing.{◌+ᴿ◌, ◌·◌, -ᴿ◌, x, 𝟏, constant}
use Rattle.algebra.specs.Monomials.{x^}
use Rattle.algebra.specs.Degree.{below_up, below_add, below_neg, below_𝟎, monic_pow_x}
use Rattle.algebra.specs.CoefficientLists.{poly, Reduced, 𝓩[x]/}
use Rattle.algebra.specs.Congruence.{congruent_equal, congruent_trans, congruent_add, congruent_mul}
use Rattle.arrays.specs.Represents.{Represents, zeros}
use Rattle.arrays.specs.Terms.{term_added}
use Rattle.frobenius.specs.FrobeniusPowers.{◌^ᴿ◌, difference_images}
use Rattle.modular.specs.Multiples.{minus_one_multiple}
use Rattle.quotients.specs.Remainder.{Remainder, remainder_as}
use Rattle.modp_dependency.specs.RemainderImages.{RemainderImages, images_first, images_stored}

abbrev pub PowerImages : (p : ℕ) → List ℕ → (d i : ℕ) → List (List ℕ) → Type 0
PowerImages p q d i images = RemainderImages p q d (difference_images p) i images

-- where the coefficient of x^i is one less, modulo p, there is a − x^i: p − 1 stands for minus one
pub less_power : (p i : ℕ) {a : List ℕ} {v : ℕ} → 0 < p → Reduced p 33 a → i < 33 → v ≡ (get_or a i 0 + (p - 1)) % p
    → Represents p (set a i v) (poly p a +ᴿ -ᴿ x^ i)
less_power p i {a} {v} pos r fits e = record { reduced = h.reduced; is = h.is ∙ ap (λ b. poly p a +ᴿ b) (minus_one_multiple p pos (x^ i)) }
  where
    h : Represents p (set a i v) (poly p a +ᴿ constant (residue p (p - 1)) · x^ i)
    h =
        term_added p i (p - 1) r fits (rw e (mod-lt _ pos))
        (ap (residue p) e ∙ residue_mod p pos (get_or a i 0 + (p - 1)) ∙ residue_add p (get_or a i 0) (p - 1))

module _ {p : ℕ} {q : List ℕ} {d : ℕ} where
  -- x^p by shifts of 1, or as a power of x
  pub shifted_power : {a r : List ℕ} → Represents p a (x^ 0) → Remainder p q d r (x^ p · poly p a) → Remainder p q d r (x^ p)
  shifted_power ha h = remainder_as p h (congruent_equal (𝓩[x]/ p) (ap (λ b. x^ p · b) (ha.is ∙ pow_zero (𝓩[x]/ p) x) ∙ mul_one (𝓩[x]/ p) (x^ p)))

  pub squared_power : {a r : List ℕ} → Represents p a (x^ 1) → Remainder p q d r (pow (𝓩[x]/ p) (poly p a) p) → Remainder p q d r (x^ p)
  squared_power ha h = rw (ha.is, pow_one (𝓩[x]/ p) x) at h

  -- a product with x^p modulo q
  pub multiplied_power : (a : List ℕ) {y r : List ℕ} → Remainder p q d y (x^ p) → Remainder p q d r (poly p a · poly p y) → Remainder p q d r (x^ p · poly p a)
  multiplied_power a {y} hy h =
      remainder_as p h
      (congruent_trans (𝓩[x]/ p) (congruent_equal (𝓩[x]/ p) ((𝓩[x]/ p).*_comm (poly p a) (poly p y)))
      (congruent_mul (𝓩[x]/ p) hy.congruent (congruent_equal (𝓩[x]/ p) refl)))

  pub first_power : {y : List ℕ} → Remainder p q d y (x^ p) → Remainder p q d y (x^ p ^ᴿ 1)
  first_power h = rw (pow_one (𝓩[x]/ p) (x^ p)) h

  -- the image of 1 is 0
  pub images_none : 0 < p → PowerImages p q d 1 (replicate 33 (replicate 33 0))
  images_none pos = images_first (record {
    reduced = (zeros p pos).reduced;
    small = rw (zeros p pos).is (below_𝟎 d);
    congruent = congruent_equal (𝓩[x]/ p)
        ((zeros p pos).is ∙ sym (ap₂ (λ a b. a +ᴿ -ᴿ b) (pow_zero (𝓩[x]/ p) (x ^ᴿ p)) (pow_zero (𝓩[x]/ p) x) ∙ add_neg (𝓩[x]/ p) 𝟏));
  })

  -- m is w − x^i
  image_more : (i : ℕ) {w m : List ℕ} → i < d → Remainder p q d w (x^ p ^ᴿ i) → Represents p m (poly p w +ᴿ -ᴿ x^ i)
      → Remainder p q d m (difference_images p i)
  image_more i {w} {m} l hw hm = record {
    reduced = hm.reduced;
    small = rw hm.is (below_add hw.small (below_neg (below_up l (monic_pow_x i).below)));
    congruent = rw hm.is (congruent_add (𝓩[x]/ p) hw.congruent (congruent_equal (𝓩[x]/ p) refl));
  }

  pub images_more : {i : ℕ} {images : List (List ℕ)} {w image : List ℕ} → i < d → i < 33 → PowerImages p q d i images
      → Remainder p q d w (x^ p ^ᴿ i) → Represents p image (poly p w +ᴿ -ᴿ x^ i) → PowerImages p q d (i + 1) (set images i image)
  images_more {i} l fits h hw hm = images_stored fits h (image_more i l hw hm)
