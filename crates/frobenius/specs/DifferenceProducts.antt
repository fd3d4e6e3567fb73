-- Products of the differences v − c of a polynomial v and different constants c, over a field.
-- Proves that each v − c is coprime to the product of the others, and that a Q that is not coprime to the product has a divisor in common with
-- some v − c. Assumes nothing.
use Rattle.std.specs.Prelude.{◌≡◌, refl, ◌⊎◌, ◌≢◌, List, [], ◌∷◌, map}
use Rattle.std.proofs.Common.{sym, ◌∙◌, ap, inl, inr, arith}
use mathlib.Core.List.Memᴰ
use mathlib.Core.List.Memᴰ.{head as here}
use mathlib.Core.List.Memᴰ.{tail as there}
use Rattle.algebra.specs.Ring.{CommRing, mul_left_comm, linear1}
use Rattle.algebra.specs.Identities.{con, ◌⊕◌, ◌⊖◌, ◌⊗◌, ⊝◌, ◌≈◌, solve}
use Rattle.algebra.specs.Divisibility.{◌∣◌, Coprime, product, product_nil, product_cons, coprime_one, coprime_mul, coprime_common}
use Rattle.algebra.specs.PolynomialRing.{Poly, PolyRing, ◌+ᴿ◌, ◌·◌, -ᴿ◌, 𝟎, 𝟏, constant}
use Rattle.algebra.specs.Degree.{monic_zero, monic_one_lem}
use Rattle.algebra.specs.Leading.{poly_discrete}
use Rattle.algebra.specs.Fields.{Field}
use Rattle.algebra.specs.Bezout.{MonicBezout, bezout_coprime, bezout_monic}
use Rattle.lists.specs.Members.{◌∈◌}
use Rattle.lists.specs.InOrder.{InOrder}
use Rattle.factorisation.specs.MonicDivisors.{divisor_degree}
use Rattle.frobenius.specs.Roots.{different_apart}

module _ {R : Type 0} {𝓡 : CommRing R} where
  -- the product of the v − c
  abbrev pub differences : Poly 𝓡 → List R → Poly 𝓡
  differences v l = product (PolyRing 𝓡) (map (λ c. v +ᴿ -ᴿ constant c) l)

  differences_cons : (v : Poly 𝓡) (c : R) (l : List R) → differences v (c ∷ l) ≡ (v +ᴿ -ᴿ constant c) · differences v l
  differences_cons v c l = product_cons (PolyRing 𝓡) (v +ᴿ -ᴿ constant c) (map (λ d. v +ᴿ -ᴿ constant d) l)

  module _ (field : Field 𝓡) where
    differences_coprime : (v : Poly 𝓡) (c d : R) → c ≢ d → Coprime (PolyRing 𝓡) (v +ᴿ -ᴿ constant c) (v +ᴿ -ᴿ constant d)
    differences_coprime v c d n =
        let (u, e) = different_apart field c d n in
        record {
          u = u;
          v = -ᴿ u;
          law = linear1 (PolyRing 𝓡) 𝟏 e
              (solve (PolyRing 𝓡) 4 (λ u v c d. u ⊗ (v ⊖ c) ⊕ ⊝ u ⊗ (v ⊖ d) ⊖ con 1 ≈ con 1 ⊗ (u ⊗ (d ⊖ c) ⊖ con 1)) tt u v (constant c) (constant d));
        }

    -- apart, so that the clauses of the recursion stay cheap to check
    coprime_cons : (a v : Poly 𝓡) (d : R) (l : List R) → Coprime (PolyRing 𝓡) a (v +ᴿ -ᴿ constant d) → Coprime (PolyRing 𝓡) a (differences v l)
        → Coprime (PolyRing 𝓡) a (differences v (d ∷ l))
    coprime_cons a v d l h k = rw (differences_cons v d l) (coprime_mul (PolyRing 𝓡) h k)

    coprime_others : (v : Poly 𝓡) (c : R) (l : List R) → ((d : R) → d ∈ l → c ≢ d) → Coprime (PolyRing 𝓡) (v +ᴿ -ᴿ constant c) (differences v l)
    coprime_others v c [] n = rw (product_nil (PolyRing 𝓡)) (coprime_one (PolyRing 𝓡) (v +ᴿ -ᴿ constant c))
    coprime_others v c (d ∷ l) n =
        coprime_cons (v +ᴿ -ᴿ constant c) v d l (differences_coprime v c d (n d (here refl))) (coprime_others v c l (λ e i. n e (there i)))

    -- v − c, and the product of the others
    pub record OtherDifferences (v : Poly 𝓡) (c : R) (f : Poly 𝓡) : Type 0 where
      pub rest : Poly 𝓡
      pub multiplies : (v +ᴿ -ᴿ constant c) · rest ≡ f
      pub coprime : Coprime (PolyRing 𝓡) (v +ᴿ -ᴿ constant c) rest

    pub others : (v : Poly 𝓡) (l : List R) → InOrder (λ c d. c ≢ d) l → (c : R) → c ∈ l → OtherDifferences v c (differences v l)
    others v [] s c i = elim i [ ]
    others v (d ∷ l) (first, s) c i = go (Memᴰ.cases_cons i) (others v l s c)
      where
        go : (c ≡ d) ⊎ (c ∈ l) → (c ∈ l → OtherDifferences v c (differences v l)) → OtherDifferences v c (differences v (d ∷ l))
        go (inl e) f = record {
          rest = differences v l;
          multiplies = ap (λ b. (v +ᴿ -ᴿ constant b) · differences v l) e ∙ sym (differences_cons v d l);
          coprime = coprime_others v c l (λ b j. rw e (first b j));
        }
        go (inr j) f = let t = f j in record {
          rest = (v +ᴿ -ᴿ constant d) · t.rest;
          multiplies = mul_left_comm (PolyRing 𝓡) (v +ᴿ -ᴿ constant c) (v +ᴿ -ᴿ constant d) t.rest
              ∙ ap (λ b. (v +ᴿ -ᴿ constant d) · b) t.multiplies ∙ sym (differences_cons v d l);
          coprime = coprime_mul (PolyRing 𝓡) (differences_coprime v c d (λ e. first c j (sym e))) t.coprime;
        }

    -- ---- divisors in common with Q

    coprime_gcd : {Q a : Poly 𝓡} (z : MonicBezout field Q a) → Coprime (PolyRing 𝓡) Q a → z.combined.gcd ≡ 𝟏
    coprime_gcd z c = monic_zero (rw none at z.monic)
      where
        unit : ◌∣◌ (PolyRing 𝓡) z.combined.gcd 𝟏
        unit = coprime_common (PolyRing 𝓡) c z.combined.left z.combined.right

        none : z.degree ≡ 0
        none = omega (arith, divisor_degree field.one_ne_zero z.monic monic_one_lem unit)

    -- it is decided whether a nonzero Q is coprime to a
    coprime? : (Q a : Poly 𝓡) → Q ≢ 𝟎 → Dec (Coprime (PolyRing 𝓡) Q a)
    coprime? Q a ne = go (bezout_monic field Q a (inl ne))
      where
        go : MonicBezout field Q a → Dec (Coprime (PolyRing 𝓡) Q a)
        go z = test (poly_discrete field.decide z.combined.gcd 𝟏)
          where
            test : Dec (z.combined.gcd ≡ 𝟏) → Dec (Coprime (PolyRing 𝓡) Q a)
            test (yes e) = yes (bezout_coprime z.combined e)
            test (no n) = no (λ c. n (coprime_gcd z c))

    -- Q is coprime to the product, or to some v − c it is not
    pub some_common : (Q v : Poly 𝓡) → Q ≢ 𝟎 → (l : List R)
        → Coprime (PolyRing 𝓡) Q (differences v l) ⊎ ((c : R) × ¬ Coprime (PolyRing 𝓡) Q (v +ᴿ -ᴿ constant c))
    some_common Q v ne [] = inl (rw (product_nil (PolyRing 𝓡)) (coprime_one (PolyRing 𝓡) Q))
    some_common Q v ne (c ∷ l) = go (coprime? Q (v +ᴿ -ᴿ constant c) ne) (some_common Q v ne l)
      where
        go : Dec (Coprime (PolyRing 𝓡) Q (v +ᴿ -ᴿ constant c))
            → Coprime (PolyRing 𝓡) Q (differences v l) ⊎ ((d : R) × ¬ Coprime (PolyRing 𝓡) Q (v +ᴿ -ᴿ constant d))
            → Coprime (PolyRing 𝓡) Q (differences v (c ∷ l)) ⊎ ((d : R) × ¬ Coprime (PolyRing 𝓡) Q (v +ᴿ -ᴿ constant d))
        go (no n) t = inr (c, n)
        go (yes h) (inl k) = inl (coprime_cons Q v c l h k)
        go (yes h) (inr t) = inr t
