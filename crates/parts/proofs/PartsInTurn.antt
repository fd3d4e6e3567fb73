-- The parts of f one after the other: `LeftAt p f d r i rest e`, the parts over the first i powers are cut off, and leave `rest`, of degree e; `PartAt p f d i
-- part`, the struct has the part at the place i of the definition's list.
-- Proves that the part over the next power, when it is found, is the next of the definition's, and what is left then. Assumes nothing.
use mathlib.Core.Path.{◌≡◌, sym, ◌∙◌, ap, ap₂, subst, subst₂}
use mathlib.Core.List.{List, ◌∷◌}
use Prim.Native.Nat.{ℕ, suc, ◌+◌, ◌<◌}
use native.Mathlib.Numerals.{add-one}
use native.Mathlib.Omega.{arith}
use lib.ListN.{length, get_or, drop, length-map, get_or-map}
use lib.Seq.{drop-cons}
use Rattle.specification.specs.Polynomials as spec
use Rattle.specification.specs.Powers as powers
use Rattle.specification.specs.Parts as parts
use Rattle.specification.specs.Limits.{◌²}
use Rattle.lists.specs.Members.{◌∈◌, entry_member}
use Rattle.algebra.specs.Divisibility.{◌∣◌, divides_refl, divides_trans}
use Rattle.algebra.specs.Fields.{Prime}
use Rattle.algebra.specs.CoefficientLists.{poly, 𝓩[x]/}
use Rattle.arrays.specs.Listed.{listed}
use Rattle.arrays.specs.Held.{poly_monic}
use Rattle.items.specs.PowersOnly.{any_order}
use Rattle.items.specs.PrimaryHolds.{part_only_lem}
use Rattle.items.proofs.Items1to3Hold.{powers_are}
use Rattle.modp_factors.specs.declared.Power.{Power}
use Rattle.modp_factors.specs.Factors.{Powers, held_powers, PowerHeld, no_power}
use Rattle.part_values.specs.Given.{Given}
use Rattle.part_verdict.specs.declared.Part.{Part}
use Rattle.part_verdict.specs.AsPart.{as_part}
use Rattle.part_verdict.specs.PartHeld.{PartHeld}
use Rattle.parts.specs.declared.PartAndRest.{PartAndRest}
use Rattle.parts.specs.PowerParts.{power_degree, as_power, found_power, part_given}
use Rattle.parts.specs.PowersLeft.{Left, FirstPart, left_more, first_held}
use Rattle.parts.specs.PowersFound.{PowersFound, prime, whole, left_powers}

-- rest is what the parts over the first i powers leave of f
pub record LeftAt (p : ℕ) (f : List ℕ) (d : ℕ) (r : Powers) (i : ℕ) (rest : List ℕ) (e : ℕ) : Type 0 where
  pub left : Left p rest e (drop i (held_powers r))
  pub divides : ◌∣◌ (𝓩[x]/ (p ²)) (poly (p ²) rest) (poly (p ²) f)

-- the parts of f, as the specification has them
abbrev pub the_parts : ℕ → List ℕ → ℕ → List parts.Part
the_parts p f d = parts.parts_of p (listed d f)

-- what is read past their end
abbrev pub past_parts : ℕ → List ℕ → ℕ → parts.Part
past_parts p f d = parts.part_of p (listed d f) (as_power no_power)

-- the struct has the part at the place i, in its arrays
pub record PartAt (p : ℕ) (f : List ℕ) (d i : ℕ) (part : Part) : Type 0 where
  pub is : as_part part ≡ get_or (the_parts p f d) i (past_parts p f d)
  pub held : PartHeld p part

module _ {p : ℕ} {f : List ℕ} {d : ℕ} {r : Powers} (F : PowersFound p f d r) where
  -- there are as many parts as powers
  pub parts_count : length (the_parts p f d) ≡ length (held_powers r)
  unfolding parts.parts_of
  parts_count =
      length-map (powers.powers p (listed d f)) (parts.part_of p (listed d f)) ∙ ap length (sym (left_powers F.left))
      ∙ length-map (held_powers r) as_power

  pub all_left : LeftAt p f d r 0 f d
  all_left = record { left = F.left; divides = divides_refl (𝓩[x]/ (p ²)) (poly (p ²) f) }

  module _ {i : ℕ} (l : i < length (held_powers r)) {rest : List ℕ} {e : ℕ} (w : LeftAt p f d r i rest e) where
    -- the next power
    abbrev x : Power
    x = get_or (held_powers r) i no_power

    next : drop i (held_powers r) ≡ x ∷ drop (suc i) (held_powers r)
    next = drop-cons (held_powers r) i no_power l

    first_left : Left p rest e (x ∷ drop (suc i) (held_powers r))
    first_left = subst (Left p rest e) next w.left

    pub next_left : (L : List Power) × Left p rest e (x ∷ L)
    next_left = (_, first_left)

    module _ {t : PartAndRest} (c : FirstPart p rest e x t) where
      held_x : PowerHeld p x
      held_x = first_held first_left

      abbrev P : powers.Power
      P = as_power x

      abbrev q : spec.Poly
      q = listed (power_degree x) c.coefs

      primes : Prime p
      primes = prime F.left

      -- the power stands at the place i of the definition's list
      power_there : get_or (powers.powers p (listed d f)) i (as_power no_power) ≡ P
      power_there =
          ap (λ L. get_or L i (as_power no_power)) (sym (left_powers F.left)) ∙ get_or-map as_power (held_powers r) i no_power

      inside_powers : i < length (powers.powers p (listed d f))
      inside_powers = omega (arith, l, length-map (held_powers r) as_power, ap length (left_powers F.left))

      -- what was cut off divides f, so it is the primary part over the power
      part_divides : ◌∣◌ (𝓩[x]/ (p ²)) (poly (p ²) c.coefs) (poly (p ²) f)
      part_divides =
          divides_trans (𝓩[x]/ (p ²)) (poly (p ²) t.rest, (𝓩[x]/ (p ²)).*_comm (poly (p ²) t.rest) (poly (p ²) c.coefs) ∙ c.multiplies) w.divides

      given : Given p x.base x.degree x.exponent c.coefs
      given = part_given primes held_x c.array c.bar F.left.monic.prime

      is_primary : q ≡ powers.primary p (listed d f) P
      is_primary =
          part_only_lem p primes (whole F.left) (any_order (powers_are p primes (whole F.left))) P
          (subst (λ Q. Q ∈ powers.powers p (listed d f)) power_there (entry_member (as_power no_power) _ i inside_powers)) q (record {
            monic = given.over.monic;
            bar = given.over.bar;
            divides = subst₂ (◌∣◌ (𝓩[x]/ (p ²))) (sym (poly_monic c.array)) (sym (poly_monic F.left.monic.array)) part_divides;
          })

      pub part_at : PartAt p f d i t.part
      unfolding parts.parts_of
      part_at = record {
        is = sym c.found.is
            ∙ ap₂ (parts.part_over p) (found_power primes held_x c.array c.bar c.found) (c.found.part_is ∙ is_primary)
            ∙ ap (parts.part_of p (listed d f)) (sym power_there)
            ∙ sym (get_or-map (parts.part_of p (listed d f)) (powers.powers p (listed d f)) i (as_power no_power));
        held = c.found.held;
      }

      pub left_next : i + 1 < length (held_powers r) → LeftAt p f d r (i + 1) t.rest t.degree
      left_next m = subst (λ (k : ℕ). LeftAt p f d r k t.rest t.degree) (sym (add-one i)) (record {
        left = subst (Left p t.rest t.degree) (sym behind) (left_more (subst (λ L. Left p rest e (x ∷ L)) behind first_left) c);
        divides = divides_trans (𝓩[x]/ (p ²)) (poly (p ²) c.coefs, c.multiplies) w.divides;
      })
        where
          behind : drop (suc i) (held_powers r) ≡ get_or (held_powers r) (suc i) no_power ∷ drop (suc (suc i)) (held_powers r)
          behind = drop-cons (held_powers r) (suc i) no_power (omega (arith, m, add-one i))
