-- The list of an array that holds a monic polynomial, with its degree.
-- Proves that it is monic, that its bar is that of the array, and that an array modulo p is monic modulo p² too. Assumes nothing.
use Rattle.std.specs.Prelude.{◌≡◌, List, ℕ, ◌<◌}
use Rattle.std.proofs.Common.{sym, ◌∙◌, ap, subst, arith}
use Rattle.specification.specs.Limits.{◌²}
use Rattle.algebra.specs.Numbers.{square_large}
use Rattle.algebra.specs.TakenPrimes.{is_prime_lem}
use Rattle.algebra.specs.Degree.{Monic}
use Rattle.algebra.specs.CoefficientLists.{poly}
use Rattle.arrays.specs.SameEntries.{reduced_square}
use Rattle.arrays.specs.Listed.{listed, listed_at, reduced_listed}
use Rattle.arrays.specs.Held.{MonicArray, MonicModSquare, held_monic, poly_monic, leads_monic}
use Rattle.items.specs.MonicLists.{MonicList, monic_reduced}
use Rattle.items.specs.Reductions.{barred, bar_poly}

pub listed_monic : {n d : ℕ} {a : List ℕ} → 1 < n → MonicArray n d a → MonicList n d (listed d a)
listed_monic {d = d} large m =
    monic_reduced large (reduced_listed m.reduced m.fits (omega arith)) (subst (Monic d) (sym (poly_monic m)) m.monic)

pub square_list : {p d : ℕ} {f : List ℕ} → MonicModSquare p f d → MonicList (p ²) d (listed d f)
square_list {p} m = listed_monic (square_large p (is_prime_lem m.prime).large) m.array

pub bar_listed : {p d : ℕ} {a : List ℕ} → 1 < p → MonicArray (p ²) d a → poly p (listed d a) ≡ poly p a
bar_listed {p} {d} {a} large m = sym (bar_poly p large (listed d a)) ∙ ap (barred p large) (poly_monic m) ∙ bar_poly p large a

-- item 5: "the same coefficients 0 to p − 1 read modulo p²"
pub digits_array : {p d : ℕ} {a : List ℕ} → 1 < p → MonicArray p d a → MonicArray (p ²) d a
digits_array {d = d} {a} large m =
    leads_monic (record { shaped = (held_monic m).shaped; reduced = reduced_square m.reduced })
    (sym (listed_at d a d (omega arith)) ∙ (listed_monic large m).leads)
