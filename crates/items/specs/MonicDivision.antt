-- Divisors among monic coefficient lists: `Divides n g f` is divisibility of the polynomials.
-- Proves that an exact quotient is a monic list again and multiplies back to f, that powers and products of monic lists are monic lists,
-- and what `highest` finds. Assumes nothing.
use Rattle.std.specs.Prelude.{◌≡◌, Bool, true, false, get_or, T}
use Rattle.std.proofs.Math.Path.{refl}
use Rattle.std.proofs.Common.{sym, ◌∙◌, subst, ⊎_elim, zero-mul, suc-mul, eq-or-lt_of_le, arith}
use mathlib.Core.List.{List, [], ◌∷◌}
use mathlib.Core.List.Memᴰ.{head as here}
use Prim.Native.Nat.{ℕ, zero, suc, ◌≤◌, ◌<◌, ◌-◌, ◌+◌, ◌*◌}
use Rattle.std.proofs.Math.Nat.{add_comm}
use Rattle.specification.specs.Polynomials as spec
use Rattle.specification.specs.Powers.{highest}
use Rattle.algebra.specs.Divisibility.{◌∣◌, one_divides}
use Rattle.algebra.specs.PolynomialRing.{◌·◌}
use Rattle.algebra.specs.Degree.{Monic}
use Rattle.algebra.specs.Leading.{monic_cofactor}
use Rattle.algebra.specs.Fields.{residue_discrete, residue_nontrivial}
use Rattle.algebra.specs.CoefficientLists.{poly, poly_mul, poly_one, 𝓩[x]/}
use Rattle.algebra.specs.ListDivision.{length_quotient, low_quotient, divides_sound, divides_complete, divides_exact}
use Rattle.lists.specs.Members.{All, all_tail}
use Rattle.items.specs.MonicLists.{MonicList, monic_poly, monic_reduced, monic_list_mul, monic_same}

-- g divides f modulo n
abbrev pub Divides : ℕ → spec.Poly → spec.Poly → Type 0
Divides n g f = ◌∣◌ (𝓩[x]/ n) (poly n g) (poly n f)

module _ {n : ℕ} (large : 1 < n) where
  pos : 0 < n
  pos = omega arith

  pub monic_list_one : MonicList n 0 (1 ∷ [])
  monic_list_one = record { reduced = record { len = refl; low = low }; leads = refl }
    where
      low : (k : ℕ) → get_or (1 ∷ []) k 0 < n
      low zero = large
      low (suc k) = pos

  pub monic_list_pow : {e : ℕ} {g : spec.Poly} → MonicList n e g → (k : ℕ) → MonicList n (k * e) (spec.pow n g k)
  unfolding spec.pow
  monic_list_pow {e} {g} m zero = rw (zero-mul e) monic_list_one
  monic_list_pow {e} {g} m (suc k) = rw (suc-mul k e, add_comm (k * e) e) (monic_list_mul large m (monic_list_pow m k))

  -- an exact quotient
  pub record Exact (e d : ℕ) (g f : spec.Poly) : Type 0 where
    pub low : e ≤ d
    pub monic : MonicList n (d - e) (spec.quotient n g f)
    pub law : poly n (spec.quotient n g f) · poly n g ≡ poly n f

  pub exact : {e d : ℕ} {g f : spec.Poly} → MonicList n e g → MonicList n d f → Divides n g f → Exact e d g f
  exact {e} {d} {g} {f} mg mf v =
      make (monic_cofactor (residue_discrete n) (residue_nontrivial large) (poly n q) (poly n g) (monic_poly mg) (subst (Monic d) (sym law) (monic_poly mf)))
    where
      q : spec.Poly
      q = spec.quotient n g f

      law : poly n q · poly n g ≡ poly n f
      law = divides_exact n pos e g mg.reduced.len (monic_poly mg) f v

      make : (j : ℕ) × Monic j (poly n q) × (j + e ≡ d) → Exact e d g f
      make (j, mq, s) = record {
        low = omega arith;
        monic = monic_reduced large
            (record {
              len = length_quotient n pos e g mg.reduced.len (monic_poly mg) f ∙ omega (arith, mf.reduced.len);
              low = low_quotient n pos e g mg.reduced.len (monic_poly mg) f mf.reduced.low;
            })
            (subst (λ k. Monic k (poly n q)) (let t : j ≡ d - e = omega arith in t) mq);
        law = law;
      }

  -- g times the quotient is f again
  pub exact_multiplies : {e d : ℕ} {g f : spec.Poly} → MonicList n e g → MonicList n d f → Divides n g f → spec.mul n g (spec.quotient n g f) ≡ f
  exact_multiplies {e} {d} {g} {f} mg mf v =
      let x = exact mg mf v in
      monic_same (let s : e + (d - e) ≡ d = omega (arith, x.low) in s) (monic_list_mul large mg x.monic) mf
      (poly_mul n pos g (spec.quotient n g f) ∙ (𝓩[x]/ n).*_comm (poly n g) (poly n (spec.quotient n g f)) ∙ x.law)

  -- ---- the highest power

  -- g^m divides f, and no higher power up to the k-th does
  pub record Highest (g f : spec.Poly) (k m : ℕ) : Type 0 where
    pub bound : m ≤ k
    pub divides : Divides n (spec.pow n g m) f
    pub top : (j : ℕ) → m < j → j ≤ k → Divides n (spec.pow n g j) f → ⊥

  pub highest_is : {e : ℕ} {g : spec.Poly} → MonicList n e g → (f : spec.Poly) (k : ℕ) → Highest g f k (highest n g f k)
  unfolding highest spec.pow
  highest_is mg f zero = record {
    bound = omega arith;
    divides = rw (poly_one n) (one_divides (𝓩[x]/ n) (poly n f));
    top = λ j l u. absurd (omega arith);
  }
  highest_is {e} {g} mg f (suc k) = go (spec.divides n (spec.pow n g (suc k)) f) refl (highest_is mg f k)
    where
      m : MonicList n (suc k * e) (spec.pow n g (suc k))
      m = monic_list_pow mg (suc k)

      go : (b : Bool) → spec.divides n (spec.pow n g (suc k)) f ≡ b → Highest g f k (highest n g f k)
          → Highest g f (suc k) (elim b [ true ↦ suc k | false ↦ highest n g f k ])
      go true e h = record {
        bound = omega arith;
        divides = divides_sound n pos _ (spec.pow n g (suc k)) m.reduced.len (monic_poly m) f (subst T (sym e) tt);
        top = λ j l u. absurd (omega arith);
      }
      go false e h = record { bound = omega (arith, h.bound); divides = h.divides; top = above }
        where
          above : (j : ℕ) → highest n g f k < j → j ≤ suc k → Divides n (spec.pow n g j) f → ⊥
          above j l u v =
              ⊎_elim
              (λ q. subst T e (divides_complete n pos _ (spec.pow n g (suc k)) m.reduced.len (monic_poly m) f
              (subst (λ i. Divides n (spec.pow n g i) f) q v)))
              (λ q. h.top j l (omega arith) v) (eq-or-lt_of_le u)

  pub monic_list_product : (l : List spec.Poly) → All (λ q. (d : ℕ) × MonicList n d q) l → (d : ℕ) × MonicList n d (spec.product n l)
  unfolding spec.product
  monic_list_product [] h = (0, monic_list_one)
  monic_list_product (q ∷ l) h =
      let (d, m) = h q (here refl) in
      let (e, k) = monic_list_product l (all_tail h) in
      (d + e, monic_list_mul large m k)
