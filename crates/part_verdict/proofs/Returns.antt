-- What Algorithm 4.5 returns (`algorithm45`), way by way through its questions.
-- Proves it of any arguments. Assumes nothing.
use mathlib.Core.Path.{◌≡◌}
use mathlib.Core.Bool.{true, false}
use mathlib.Core.List.{List, [], ◌∷◌}
use mathlib.Core.Logic.{◌≢◌}
use Prim.Native.Nat.{ℕ, ◌-◌}
use borrow.Author.Tests.{eq-eqb, ne_eqb}
use Rattle.specification.specs.Polynomials.{is_zero, pow, lift}
use Rattle.specification.specs.Parts.{split_into, factor, basic, solid, power, split, h_bar, m1, w, u}
use Rattle.specification.specs.Algorithm45.{is_split, algorithm45}
use Rattle.specification.specs.Limits.{◌²}

module _ (p : ℕ) (G g : List ℕ) (m : ℕ) (f : List ℕ) where
  -- "if m = 1 then return("f is basic irreducible")"
  pub returns_basic : m ≡ 1 → algorithm45 p G g m f ≡ split_into basic (factor f 1 ∷ [])
  unfolding algorithm45
  returns_basic e = rw (eq-eqb m 1 e)

  module _ (repeated : m ≢ 1) where
    -- "if h̄ = 0 then return(((g, m)))"
    pub returns_power : is_zero (h_bar p g m f) ≡ true → algorithm45 p G g m f ≡ split_into power (factor g m ∷ [])
    unfolding algorithm45
    returns_power z = rw (ne_eqb m 1 repeated, z)

    module _ (nonzero : is_zero (h_bar p g m f) ≡ false) where
      -- "if m1 = 0 then return("f is irreducible")"
      pub returns_solid : m1 p G g m f ≡ 0 → algorithm45 p G g m f ≡ split_into solid (factor f 1 ∷ [])
      unfolding algorithm45
      returns_solid e = rw (ne_eqb m 1 repeated, nonzero, eq-eqb (m1 p G g m f) 0 e)

      module _ (divides : m1 p G g m f ≢ 0) where
        -- "if (p|m) or (m1 ≤ m − 2) then return(((g, m1), (g^(m−m1) + pw, 1)))"
        pub returns_split : is_split p m (m1 p G g m f) ≡ true
            → algorithm45 p G g m f
            ≡ split_into (split (m1 p G g m f)) (factor g (m1 p G g m f) ∷ factor (lift p (pow (p ²) g (m - m1 p G g m f)) (w p G g m f)) 1 ∷ [])
        unfolding algorithm45
        returns_split t = rw (ne_eqb m 1 repeated, nonzero, ne_eqb (m1 p G g m f) 0 divides, t)

        -- "return(((g + pu, m)))"
        pub returns_root : is_split p m (m1 p G g m f) ≡ false
            → algorithm45 p G g m f ≡ split_into power (factor (lift p g (u p G g m f)) m ∷ [])
        unfolding algorithm45
        returns_root t = rw (ne_eqb m 1 repeated, nonzero, ne_eqb (m1 p G g m f) 0 divides, t)
