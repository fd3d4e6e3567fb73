-- Algorithm 4.5 on arrays: what the code makes at each of its returns, from the values that the steps before have given. `SplitByItems`: a part is the one that
-- items 4 to 9 give, with some g. Proves it return by return, and that with the g of item 5 it is what is promised of a part. Assumes nothing.
use mathlib.Core.Path.{◌≡◌, refl, sym, ◌∙◌, ap, ap₂, subst}
use mathlib.Core.Bool.{Bool, true, false}
use mathlib.Core.List.{List, [], ◌∷◌}
use mathlib.Core.Logic.{◌≢◌}
use Prim.Native.Nat.{ℕ, suc, ◌≤◌, ◌<◌, ◌-◌, ◌%◌, ◌*◌}
use native.Mathlib.Nat.{one-mul}
use native.Mathlib.Omega.{arith}
use borrow.Author.Tests.{eqb-false, leb-false}
use lib.Dec.{eqb, leb}
use lib.ListN.{length}
use Rattle.specification.specs.Polynomials as spec
use Rattle.specification.specs.Parts as parts
use Rattle.specification.specs.Algorithm45.{is_split, algorithm45}
use Rattle.specification.specs.Limits.{◌²}
use Rattle.lists.specs.Tests.{neither}
use Rattle.algebra.specs.Numbers.{square_large}
use Rattle.algebra.specs.Divisibility.{pow}
use Rattle.algebra.specs.PolynomialRing.{𝟎}
use Rattle.algebra.specs.Degree.{Below}
use Rattle.algebra.specs.CoefficientLists.{poly, poly_pow, 𝓩[x]/}
use Rattle.arrays.specs.Represents.{Represents}
use Rattle.arrays.specs.Listed.{listed, listed_is}
use Rattle.arrays.specs.Held.{Held, held_below, poly_held}
use Rattle.items.specs.MonicLists.{MonicList, monic_poly}
use Rattle.items.specs.Reductions.{lift_list_monic}
use Rattle.items.specs.PartForm.{power_monic, is_zero_h, is_zero_h_false, length_w as quotient-length, length_u}
use Rattle.items.specs.AlgorithmOrder.{as_printed}
use Rattle.part_values.proofs.Degrees.{rest_room}
use Rattle.part_values.proofs.Lifts.{lift_by}
use Rattle.part_values.specs.Given.{Given, Chosen, large, degree_room, part_room, base_degree, g_list}
use Rattle.part_values.specs.ArrayValues.{IsHBar, AreM1AndW, IsU}
use Rattle.part_verdict.proofs.Returns.{returns_basic, returns_power, returns_solid, returns_split, returns_root}
use Rattle.part_verdict.specs.declared.Verdict.TheVariants.{Basic, Solid, Power}
use Rattle.part_verdict.specs.declared.Part.{Part}
use Rattle.part_verdict.specs.AsPart.{as_part, one_factor, two_factors}
use Rattle.part_verdict.specs.PartHeld.{PartHeld}
use Rattle.part_verdict.specs.PartFound.{PartFound}

-- r is the part that items 4 to 9 give
pub record SplitByItems (p : ℕ) (base g : List ℕ) (d m : ℕ) (part : List ℕ) (r : Part) : Type 0 where
  pub is : as_part r ≡ record { base = listed d base; exponent = m; splitting = parts.splitting p (listed d base) (listed d g) m (listed (m * d) part) }
  pub held : PartHeld p r

-- the array of a monic list
list_held : {n e : ℕ} {f r : List ℕ} → MonicList n e f → e ≤ 32 → Represents n r (poly n f) → (listed e r ≡ f) × Held n e r
list_held {n} {e} m room h = (
  listed_is h.reduced (omega arith) m.reduced h.is,
  held_below room h.reduced (rw h.is (monic_poly m).below),
)

-- where "(p|m) or (m1 ≤ m − 2)" is not so
pub not_divided : (p m k : ℕ) → is_split p m k ≡ false → m % p ≢ 0
not_divided p m k t = eqb-false (m % p) 0 (neither (eqb (m % p) 0) (leb k (m - 2)) t).0

-- then m1 = m − 1, and w is of lower degree than G
module _ {p : ℕ} {base g : List ℕ} {d m : ℕ} {part : List ℕ} {k : ℕ} {w : List ℕ} (W : AreM1AndW p base g d m part k w)
    (t : is_split p m k ≡ false) where
  once : (m - k) * d ≡ d
  once =
      ap (λ (j : ℕ). j * d)
      (let e : m - k ≡ 1 = omega (arith, leb-false k (m - 2) (neither (eqb (m % p) 0) (leb k (m - 2)) t).1, W.less) in e)
      ∙ one-mul d

  pub w_below : Below d (poly p w)
  w_below = subst (λ (e : ℕ). Below e (poly p w)) once W.below

module _ {p : ℕ} {base : List ℕ} {d m : ℕ} {part : List ℕ} (given : Given p base d m part) where
  -- the lists of the arrays of G and of the part
  abbrev G : List ℕ
  G = listed d base

  abbrev Q : List ℕ
  Q = listed (m * d) part

  -- the part of a splitting
  abbrev part_with : parts.Splitting → parts.Part
  part_with S = record { base = G; exponent = m; splitting = S }

  pos : 0 < p ²
  pos = omega (arith, square_large p (large given))

  module _ {g : List ℕ} (chosen : Chosen p base d g) where
    -- the list of g
    abbrev γ : List ℕ
    γ = listed d g

    -- what the algorithm returns is what items 4 to 9 give
    returned : {S : parts.Splitting} → algorithm45 p G γ m Q ≡ S → part_with S ≡ part_with (parts.splitting p G γ m Q)
    returned e = ap part_with (sym (as_printed (large given) given.over chosen.lift ∙ e))

    -- m = 1; item 4: "The factor is the part itself". No g is chosen yet: it holds for every g
    pub split_basic : m ≡ 1 → SplitByItems p base g d m part (one_factor base d m Basic part (m * d) 1)
    split_basic e = record {
      is = returned (returns_basic p G γ m Q e);
      held = record { base = given.base_held; first = given.part_held; second = tt };
    }

    module _ (repeated : m ≢ 1) {h : List ℕ} (H : IsHBar p g d m part h) where
      -- h̄ = 0; item 6: "The factor is g, m times"
      pub split_power : poly p h ≡ 𝟎 → SplitByItems p base g d m part (one_factor base d m Power g d m)
      split_power e = record {
        is = returned (returns_power p G γ m Q repeated (is_zero_h (large given) given.over chosen.lift (sym H.is.is ∙ e)));
        held = record { base = given.base_held; first = chosen.held; second = tt };
      }

      module _ (nonzero : poly p h ≢ 𝟎) {k : ℕ} {w : List ℕ} (W : AreM1AndW p base g d m part k w) where
        not_zero : spec.is_zero (parts.h_bar p γ m Q) ≡ false
        not_zero = is_zero_h_false (large given) given.over chosen.lift (λ e. nonzero (H.is.is ∙ e))

        -- m1 = 0; item 7: "The part is irreducible"
        pub split_solid : k ≡ 0 → SplitByItems p base g d m part (one_factor base d m Solid part (m * d) 1)
        split_solid e = record {
          is = returned (returns_solid p G γ m Q repeated not_zero (sym W.m1_is ∙ e));
          held = record { base = given.base_held; first = given.part_held; second = tt };
        }

        degrees : (m - parts.m1 p G γ m Q) * spec.degree G ≡ (m - k) * d
        degrees = ap₂ (λ (j e : ℕ). (m - j) * e) (sym W.m1_is) (base_degree given)

        length_w : length (parts.w p G γ m Q) ≡ suc ((m - k) * d)
        length_w = quotient-length (large given) given.over chosen.lift ∙ ap suc degrees

        module _ (divides : k ≢ 0) where
          divides_m1 : parts.m1 p G γ m Q ≢ 0
          divides_m1 e = divides (W.m1_is ∙ e)

          -- the question, of the specification's m1
          asked : (b : Bool) → is_split p m k ≡ b → is_split p m (parts.m1 p G γ m Q) ≡ b
          asked b = subst (λ (j : ℕ). is_split p m j ≡ b) W.m1_is

          -- p | m or m1 ≤ m − 2; item 9: "The factors are g, m1 times, then g^(m − m1) + p·w once"
          module _ (t : is_split p m k ≡ true) where
            last_list : MonicList (p ²) ((m - k) * d) (spec.lift p (spec.pow (p ²) γ (m - parts.m1 p G γ m Q)) (parts.w p G γ m Q))
            last_list =
                lift_list_monic p (large given)
                (subst (λ (e : ℕ). MonicList (p ²) e (spec.pow (p ²) γ (m - parts.m1 p G γ m Q))) degrees
                (power_monic (large given) given.over chosen.lift (m - parts.m1 p G γ m Q)))
                (parts.w p G γ m Q) (omega (arith, length_w)) (subst (Below ((m - k) * d)) W.is.is W.below)

            powers : poly (p ²) (spec.pow (p ²) g (m - k)) ≡ poly (p ²) (spec.pow (p ²) γ (m - parts.m1 p G γ m Q))
            powers =
                poly_pow (p ²) pos g (m - k)
                ∙ ap₂ (λ a (j : ℕ). pow (𝓩[x]/ (p ²)) a (m - j)) (sym (poly_held chosen.held)) W.m1_is
                ∙ sym (poly_pow (p ²) pos γ (m - parts.m1 p G γ m Q))

            pub split_split : {q : List ℕ} → Represents (p ²) q (poly (p ²) (spec.lift p (spec.pow (p ²) g (m - k)) w))
                → SplitByItems p base g d m part (two_factors base g d m k q ((m - k) * d))
            split_split {q} r =
                let room = rest_room m k d (part_room given) in
                let (list, held) = list_held last_list room (lift_by p (large given) _ _ _ _ powers W.is.is r) in
                record {
                  is = ap₂ (λ (j : ℕ) f. part_with (parts.split_into (parts.split j) (parts.factor γ j ∷ parts.factor f 1 ∷ []))) W.m1_is list
                      ∙ returned (returns_split p G γ m Q repeated not_zero divides_m1 (asked true t));
                  held = record { base = given.base_held; first = chosen.held; second = held };
                }

          -- p does not divide m, and m1 = m − 1; item 8: "the factor is g + p·u, m times"
          module _ (t : is_split p m k ≡ false) {v : List ℕ} (U : IsU p base g d m part v) where
            root_list : MonicList (p ²) d (spec.lift p γ (parts.u p G γ m Q))
            root_list =
                lift_list_monic p (large given) (g_list given chosen) (parts.u p G γ m Q)
                (omega (arith, length_u (large given) given.over chosen.lift, length_w, once W t)) (subst (Below d) U.is.is U.below)

            pub split_root : {q : List ℕ} → Represents (p ²) q (poly (p ²) (spec.lift p g v)) → SplitByItems p base g d m part (one_factor base d m Power q d m)
            split_root {q} r =
                let (list, held) = list_held root_list (degree_room given)
                (lift_by p (large given) _ _ _ _ (sym (poly_held chosen.held)) U.is.is r) in
                record {
                  is = ap (λ f. part_with (parts.split_into parts.power (parts.factor f m ∷ []))) list
                      ∙ returned (returns_root p G γ m Q repeated not_zero divides_m1 (asked false t));
                  held = record { base = given.base_held; first = held; second = tt };
                }

  -- with the g of item 5
  pub part_found : {g : List ℕ} {r : Part} → listed d g ≡ parts.digit_lift G → SplitByItems p base g d m part r → PartFound p part (m * d) r
  part_found same s = record {
    found = record { power = record { base = G; exponent = m }; part = Q };
    over = given.over;
    part_is = refl;
    is = sym (s.is ∙ ap (λ γ. part_with (parts.splitting p G γ m Q)) same);
    held = s.held;
  }
