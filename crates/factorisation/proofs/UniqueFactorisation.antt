-- Factorisations of f over a field into powers G^m of different irreducible G.
-- Proves that G is coprime to the product of the other powers, that two factorisations of f have the same members, that they are equal where both are in
-- order by a strict order of the bases, and that a power has one base. Assumes nothing.
use Rattle.std.specs.Prelude.{◌≡◌, refl, List, [], ◌∷◌, ◌⊎◌, ◌≢◌, ℕ, ◌≤◌}
use Rattle.std.proofs.Common.{sym, ◌∙◌, ap, inl, inr, ⊎_elim}
use mathlib.Core.List.Memᴰ
use mathlib.Core.List.Memᴰ.{head as here}
use mathlib.Core.List.Memᴰ.{tail as there}
use Rattle.algebra.specs.Ring.{CommRing, mul_left_comm}
use Rattle.algebra.specs.Divisibility.{◌∣◌, Coprime, pow, pow_one, pow_divides, product_nil, product_one, divides_mul_right, coprime_one, coprime_mul, coprime_pow, gauss}
use Rattle.algebra.specs.PolynomialRing.{Poly, PolyRing, ◌·◌}
use Rattle.algebra.specs.Fields.{Field}
use Rattle.lists.specs.Members.{◌∈◌, All, all_cons, all_tail}
use Rattle.lists.specs.InOrder.{StrictOrder, InOrder, in_order_unique}
use Rattle.factorisation.specs.Irreducible.{Irreducible, irreducible_prime}
use Rattle.factorisation.proofs.Irreducible.{same_or_coprime, different_coprime}
use Rattle.factorisation.specs.Multiplicity.{Multiplicity, coprime_not_divides, multiplicity_unique}
use Rattle.factorisation.specs.UniqueFactorisation.{power, powers, powers_cons, PowersOf, Others}

module _ {R : Type 0} {𝓡 : CommRing R} where
  module _ (field : Field 𝓡) where
    coprime_times_power : {G : Poly 𝓡} (P : Poly 𝓡 × ℕ) {c : Poly 𝓡} → Irreducible G → Irreducible P.0 → G ≢ P.0
        → Coprime (PolyRing 𝓡) G c → Coprime (PolyRing 𝓡) G (power P · c)
    coprime_times_power P I J n c = coprime_mul (PolyRing 𝓡) (coprime_pow (PolyRing 𝓡) P.1 (different_coprime field I J n)) c

    -- apart, so that the clauses of the recursion stay cheap to check
    coprime_cons : {G : Poly 𝓡} (P : Poly 𝓡 × ℕ) (l : List (Poly 𝓡 × ℕ)) → Irreducible G → Irreducible P.0 → G ≢ P.0
        → Coprime (PolyRing 𝓡) G (powers l) → Coprime (PolyRing 𝓡) G (powers (P ∷ l))
    coprime_cons P l I J n c = rw (powers_cons P l) (coprime_times_power P I J n c)

    -- an irreducible polynomial is coprime to the powers of others
    pub coprime_powers : {G : Poly 𝓡} → Irreducible G → (l : List (Poly 𝓡 × ℕ)) → All (λ P. Irreducible P.0) l
        → All (λ P. G ≢ P.0) l → Coprime (PolyRing 𝓡) G (powers l)
    coprime_powers {G} I [] h n = rw (product_nil (PolyRing 𝓡)) (coprime_one (PolyRing 𝓡) G)
    coprime_powers I (P ∷ l) h n =
        coprime_cons P l I (h P (here refl)) (n P (here refl))
        (coprime_powers I l (all_tail h) (all_tail n))

    others_in : (l : List (Poly 𝓡 × ℕ)) → All (λ P. Irreducible P.0) l → InOrder (λ P Q. P.0 ≢ Q.0) l
        → (P : Poly 𝓡 × ℕ) → P ∈ l → Others P (powers l)
    others_in [] h _ P i = elim i [ ]
    others_in (Q ∷ l) h (n, ns) P i = go (Memᴰ.cases_cons i) (others_in l (all_tail h) ns P)
      where
        go : (P ≡ Q) ⊎ (P ∈ l) → (P ∈ l → Others P (powers l)) → Others P (powers (Q ∷ l))
        go (inl e) f = record {
          rest = powers l;
          multiplies = ap (λ P. power P · powers l) e ∙ sym (powers_cons Q l);
          coprime = coprime_powers (h P i) l (all_tail h) (λ S j. rw e (n S j));
        }
        go (inr j) f = let t = f j in record {
          rest = power Q · t.rest;
          multiplies = mul_left_comm (PolyRing 𝓡) (power P) (power Q) t.rest ∙ ap (λ z. power Q · z) t.multiplies ∙ sym (powers_cons Q l);
          coprime = coprime_times_power Q (h P i) (h Q (here refl)) (λ e. n P j (sym e)) t.coprime;
        }

    -- G is coprime to the product of the other powers
    pub others : {f : Poly 𝓡} {l : List (Poly 𝓡 × ℕ)} → PowersOf f l → (P : Poly 𝓡 × ℕ) → P ∈ l → Others P f
    others {l = l} l-is P i = rw l-is.multiplies at (others_in l l-is.irreducible l-is.different P i)

    -- an irreducible divisor of the product is one of the bases
    base_of : {G : Poly 𝓡} → Irreducible G → (l : List (Poly 𝓡 × ℕ)) → All (λ P. Irreducible P.0) l
        → ◌∣◌ (PolyRing 𝓡) G (powers l) → (P : Poly 𝓡 × ℕ) × (P ∈ l) × (G ≡ P.0)
    base_of I [] h d = absurd ((irreducible_prime field I).nonunit (rw (product_nil (PolyRing 𝓡)) at d))
    base_of {G} I (Q ∷ l) h d = go (same_or_coprime field I (h Q (here refl))) (base_of I l (all_tail h))
      where
        whole : powers (Q ∷ l) ≡ powers l · power Q
        whole = powers_cons Q l ∙ (PolyRing 𝓡).*_comm (power Q) (powers l)

        go : (G ≡ Q.0) ⊎ Coprime (PolyRing 𝓡) G Q.0 → (◌∣◌ (PolyRing 𝓡) G (powers l) → (P : Poly 𝓡 × ℕ) × (P ∈ l) × (G ≡ P.0))
            → (P : Poly 𝓡 × ℕ) × (P ∈ (Q ∷ l)) × (G ≡ P.0)
        go (inl e) f = (Q, here refl, e)
        go (inr c) f = let (P, i, e) = f (gauss (PolyRing 𝓡) (coprime_pow (PolyRing 𝓡) Q.1 c) (rw whole at d)) in (P, there i, e)

    -- the exponent is the multiplicity of the base
    base_multiplicity : {f : Poly 𝓡} {l : List (Poly 𝓡 × ℕ)} → PowersOf f l → (P : Poly 𝓡 × ℕ) → P ∈ l
        → (M : Multiplicity (PolyRing 𝓡) P.0 f) × (M.k ≡ P.1)
    base_multiplicity l-is P i =
        let t = others l-is P i in (
          record {
            k = P.1;
            w = t.rest;
            law = (PolyRing 𝓡).*_comm t.rest (power P) ∙ t.multiplies;
            stop = coprime_not_divides (irreducible_prime field (l-is.irreducible P i)) t.coprime;
          },
          refl,
        )

    pub same_members : {f : Poly 𝓡} {l m : List (Poly 𝓡 × ℕ)} → PowersOf f l → PowersOf f m → All (λ P. P ∈ m) l
    same_members {f} {l} {m} l-is m-is P i = go (base_of I m m-is.irreducible (rw m-is.multiplies divides))
      where
        I : Irreducible P.0
        I = l-is.irreducible P i

        divides : ◌∣◌ (PolyRing 𝓡) P.0 f
        divides =
            let t = others l-is P i in
            let once : 1 ≤ P.1 = l-is.positive P i in
            rw (← t.multiplies)
            (divides_mul_right (PolyRing 𝓡) t.rest (rw (pow_one (PolyRing 𝓡) P.0) at (pow_divides (PolyRing 𝓡) P.0 once)))

        go : (Q : Poly 𝓡 × ℕ) × (Q ∈ m) × (P.0 ≡ Q.0) → P ∈ m
        go (Q, j, e) = Memᴰ.cast (λ t. (e t, same t)) j
          where
            M : (M : Multiplicity (PolyRing 𝓡) P.0 f) × (M.k ≡ P.1)
            M = base_multiplicity l-is P i

            N : (N : Multiplicity (PolyRing 𝓡) P.0 f) × (N.k ≡ Q.1)
            N = rw e (base_multiplicity m-is Q j)

            same : P.1 ≡ Q.1
            same = sym M.1 ∙ multiplicity_unique (irreducible_prime field I).cancel M.0 N.0 ∙ N.1

    -- "in one way"
    pub factorisation_unique : {before : Poly 𝓡 → Poly 𝓡 → Type 0} → StrictOrder before → {f : Poly 𝓡} {l m : List (Poly 𝓡 × ℕ)}
        → PowersOf f l → PowersOf f m → InOrder (λ P Q. before P.0 Q.0) l → InOrder (λ P Q. before P.0 Q.0) m → l ≡ m
    factorisation_unique O {l = l} {m} l-is m-is h k =
        in_order_unique (record { irreflexive = λ b. O.irreflexive b; transitive = λ b c. O.transitive b c }) l m h k (same_members l-is m-is)
        (same_members m-is l-is)

    -- a power of an irreducible polynomial is one of no other
    pub same_base : {G H : Poly 𝓡} {k m : ℕ} → Irreducible G → Irreducible H → 1 ≤ k → 1 ≤ m → pow (PolyRing 𝓡) G k ≡ pow (PolyRing 𝓡) H m → G ≡ H
    same_base {G} {H} {k} {m} I J l u e =
        ⊎_elim (λ q. ap (λ P. P.0) q) (λ i. elim i [ ])
        (Memᴰ.cases_cons (same_members (alone I l e) (alone J u refl) (G, k) (here refl)))
      where
        alone : {f K : Poly 𝓡} {j : ℕ} → Irreducible K → 1 ≤ j → pow (PolyRing 𝓡) K j ≡ f → PowersOf f ((K, j) ∷ [])
        alone {K = K} {j} I l e = record {
          irreducible = all_cons I (λ P i. elim i [ ]);
          positive = all_cons l (λ P i. elim i [ ]);
          different = ((λ P i. elim i [ ]), tt);
          multiplies = product_one (PolyRing 𝓡) (pow (PolyRing 𝓡) K j) ∙ e;
        }
