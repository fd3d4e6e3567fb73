-- A part in an array: `Given`, it is over G to the m, as the first line of Algorithm 4.5 has it; `Chosen`, g is monic modulo p² with bar G.
-- Proves that f is such a part where its bar is the m-th power of an irreducible polynomial over ℤ/p, that G and g are monic, as lists and in their arrays, and
-- that G itself may be chosen. Assumes nothing.
use Rattle.std.specs.Prelude.{◌≡◌, true, List, ℕ, ◌≤◌, ◌<◌, ◌*◌}
use Rattle.std.proofs.Common.{sym, ◌∙◌, ap, subst, arith}
use Rattle.specification.specs.Limits.{taken, ◌²}
use Rattle.specification.specs.Polynomials as spec
use Rattle.specification.specs.Longest as claimed
use Rattle.algebra.specs.TakenPrimes.{is_prime_lem}
use Rattle.algebra.specs.Residues.{Residues}
use Rattle.algebra.specs.Divisibility.{pow}
use Rattle.algebra.specs.Degree.{Monic}
use Rattle.algebra.specs.CoefficientLists.{poly, poly_pow, poly_reduce, 𝓩[x]/}
use Rattle.arrays.specs.SameEntries.{reduced_square}
use Rattle.arrays.specs.Listed.{listed, degree_listed}
use Rattle.arrays.specs.Held.{Held, MonicArray, MonicModSquare, inside, held_monic, poly_held, poly_monic}
use Rattle.factorisation.specs.Irreducible.{Irreducible}
use Rattle.items.specs.MonicLists.{MonicList, monic_poly, poly_list, list_monic, to_claimed}
use Rattle.items.specs.MonicDivision.{monic_list_pow}
use Rattle.items.specs.Factorisations.{monic_equal}
use Rattle.items.specs.Irreducibles.{irreducible_list}
use Rattle.items.specs.Reductions.{LiftOf, monic_reduce, digit_lift_lem}
use Rattle.items.specs.ArrayLists.{listed_monic, square_list, bar_listed}
use Rattle.items.specs.PartForm.{PartOver, part_over_lem, base_monic}

-- items 1 and 2: a part modulo p² over G to the m, where G is irreducible and of degree d
pub record Given (p : ℕ) (base : List ℕ) (d m : ℕ) (part : List ℕ) : Type 0 where
  pub prime : taken p ≡ true
  pub base_held : Held p d base
  pub part_held : Held (p ²) (m * d) part
  pub over : PartOver p (listed d base) m (listed (m * d) part)

-- "g ∈ GR(p^2, r)[x] monic so that ḡ = G"
pub record Chosen (p : ℕ) (base : List ℕ) (d : ℕ) (g : List ℕ) : Type 0 where
  pub held : Held (p ²) d g
  pub lift : LiftOf p (listed d base) (listed d g)

-- "G is irreducible", said of the polynomial over ℤ/p in an array
pub listed_irreducible : {p : ℕ} {base : List ℕ} {d : ℕ} → 1 < p → MonicArray p d base → Irreducible {𝓡 = Residues p} (poly p base)
    → claimed.Irreducible p (listed d base)
listed_irreducible {p} {base} large B I =
    subst (claimed.Irreducible p)
    (monic_equal large (list_monic large I.monic) (listed_monic large B) (poly_list _ (poly p base) I.monic.below ∙ sym (poly_monic B)))
    (irreducible_list large I)

-- "f̄ = G^m and G is irreducible", said of polynomials over ℤ/p
pub given_of : {p : ℕ} {f base : List ℕ} {m d : ℕ} → MonicModSquare p f (m * d) → MonicArray p d base → Irreducible {𝓡 = Residues p} (poly p base)
    → 1 ≤ m → poly p f ≡ pow (𝓩[x]/ p) (poly p base) m → Given p base d m f
given_of {p} {f} {base} {m} {d} F B I positive e = record {
  prime = F.prime;
  base_held = held_monic B;
  part_held = held_monic F.array;
  over = part_over_lem large {P = record { base = listed d base; exponent = m }} (listed_irreducible large B I) positive
      (to_claimed F.positive (square_list F)) bar;
}
  where
    large : 1 < p
    large = (is_prime_lem F.prime).large

    bar : spec.reduce p (listed (m * d) f) ≡ spec.pow p (listed d base) m
    bar =
        monic_equal large (monic_reduce large (square_list F)) (monic_list_pow large (listed_monic large B) m)
        (poly_reduce p (omega (arith, large)) (listed (m * d) f) ∙ bar_listed large F.array ∙ e
        ∙ ap (λ a. pow (𝓩[x]/ p) a m) (sym (poly_monic B)) ∙ sym (poly_pow p (omega (arith, large)) (listed d base) m))

module _ {p : ℕ} {base : List ℕ} {d m : ℕ} {part : List ℕ} (given : Given p base d m part) where
  pub large : 1 < p
  large = (is_prime_lem given.prime).large

  pub degree_room : d ≤ 32
  degree_room = given.base_held.shaped.fits

  pub part_room : m * d ≤ 32
  part_room = given.part_held.shaped.fits

  -- the degree of G is d
  pub base_degree : spec.degree (listed d base) ≡ d
  base_degree = degree_listed d base (inside given.base_held.shaped)

  pub base_list : MonicList p d (listed d base)
  base_list = subst (λ (e : ℕ). MonicList p e (listed d base)) base_degree (base_monic large given.over)

  pub base_is_monic : Monic d (poly p base)
  base_is_monic = subst (Monic d) (poly_held given.base_held) (monic_poly base_list)

  module _ {g : List ℕ} (chosen : Chosen p base d g) where
    pub g_list : MonicList (p ²) d (listed d g)
    g_list = subst (λ (e : ℕ). MonicList (p ²) e (listed d g)) base_degree chosen.lift.monic

    pub g_is_monic : MonicArray (p ²) d g
    g_is_monic = record {
      fits = omega (arith, degree_room);
      reduced = chosen.held.reduced;
      monic = subst (Monic d) (poly_held chosen.held) (monic_poly g_list);
    }

  -- item 5: "let g be G with the same coefficients 0 to p − 1 read modulo p²"
  pub digit_chosen : Chosen p base d base
  digit_chosen = record {
    held = record { shaped = given.base_held.shaped; reduced = reduced_square given.base_held.reduced };
    lift = digit_lift_lem p large (base_monic large given.over);
  }
