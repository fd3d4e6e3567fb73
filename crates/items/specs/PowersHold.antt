-- Items 1 and 3: what trial division in order finds.
-- Proves that the specification's powers of a monic list have irreducible bases in order, exponents of 1 or more, and the right product.
-- Assumes nothing.
use Rattle.std.specs.Prelude.{◌≡◌, refl, length}
use Rattle.std.proofs.Math.Path.{sym, ap₂, subst}
use Rattle.std.proofs.Common.{◌∙◌, ap, suc-mul, zero-mul, le-mul_of_pos_right, arith}
use mathlib.Core.List.Memᴰ
use mathlib.Core.List.{
  List,
  [],
  ◌∷◌,
  ◌++◌,
  map,
  append_assoc,
}
use mathlib.Core.List.Memᴰ.{head as here}
use mathlib.Core.List.Memᴰ.{tail as there}
use Rattle.std.proofs.Math.Logic.{⊎_elim}
use Prim.Native.Nat.{ℕ, zero, suc, ◌≤◌, ◌<◌, ◌-◌, ◌+◌, ◌*◌}
use Rattle.specification.specs.Polynomials as spec
use Rattle.specification.specs.Powers.{Power, listed, powers_among, powers, highest, monics_to}
use Rattle.specification.specs.Items1to3 as items1to3
use Rattle.specification.specs.Longest as claimed
use Rattle.algebra.specs.Numbers.{lt_or_le}
use Rattle.algebra.specs.Ring.{mul_one}
use Rattle.algebra.specs.Divisibility.{divides_refl, divides_trans}
use Rattle.algebra.specs.PolynomialRing.{◌·◌}
use Rattle.algebra.specs.ListShapes.{length_reduce}
use Rattle.algebra.specs.CoefficientLists.{poly, poly_mul, poly_one, 𝓩[x]/}
use Rattle.lists.specs.Members.{◌∈◌, All}
use Rattle.lists.specs.InOrder.{InOrder}
use Rattle.items.specs.MonicLists.{MonicList, from_claimed, to_claimed, monic_same, monic_list_mul, monic_list_zero}
use Rattle.items.specs.MonicDivision.{Divides, Exact, exact, exact_multiplies, Highest, highest_is, monic_list_pow}
use Rattle.items.specs.Enumeration.{monics_to_member, monics_to_has, monics_to_in_order}

module _ (p : ℕ) (large : 1 < p) (n : ℕ) where
  -- what is found among the candidates Gs: the powers Ps of f
  record Found (Gs : List spec.Poly) (f : spec.Poly) (Ps : List Power) : Type 0 where
    among : (P : Power) → P ∈ Ps → P.base ∈ Gs
    irreducible : (P : Power) → P ∈ Ps → claimed.Irreducible p P.base
    positive : (P : Power) → P ∈ Ps → 1 ≤ P.exponent
    in_order : items1to3.InOrder Ps
    multiplies : spec.product p (map (items1to3.power_of p) Ps) ≡ f

  -- the candidates before Gs, which divide f no more
  record Tried (Cs Gs : List spec.Poly) (f : spec.Poly) : Type 0 where
    all : Cs ++ Gs ≡ monics_to p n
    gone : (H : spec.Poly) → H ∈ Cs → Divides p H f → ⊥

  -- a monic polynomial of degree 1 or more that divides f is still to come
  to_come : {Cs Gs : List spec.Poly} {f : spec.Poly} → Tried Cs Gs f → {e : ℕ} {H : spec.Poly} → MonicList p e H → 1 ≤ e → e ≤ n → Divides p H f → H ∈ Gs
  to_come {Cs} {Gs} t {e} {H} m l u v =
      ⊎_elim (λ i. absurd (t.gone H i v)) (λ i. i)
      (Memᴰ.append_cases Cs (subst (λ c. H ∈ c) (sym t.all) (monics_to_has p large n e H l u m)))

  found_none : {Cs : List spec.Poly} {f : spec.Poly} {d : ℕ} → MonicList p d f → d ≤ n → Tried Cs [] f → Found [] f []
  found_none {f = f} {d} m u t = record {
    among = λ P i. elim i [ ];
    irreducible = λ P i. elim i [ ];
    positive = λ P i. elim i [ ];
    in_order = tt;
    multiplies = unfold spec.product in sym (is_one d m u);
  }
    where
      is_one : (d : ℕ) → MonicList p d f → d ≤ n → f ≡ 1 ∷ []
      is_one zero m u = monic_list_zero f m
      is_one (suc d) m u = absurd (elim (to_come t m (omega arith) u (divides_refl (𝓩[x]/ p) (poly p f))) [ ])

  -- a candidate that divides f: its factors would have been tried before it
  found_irreducible : {Cs Gs : List spec.Poly} {G f : spec.Poly} {e : ℕ} → MonicList p e G → 1 ≤ e → e ≤ n
      → All (items1to3.Before G) Gs → Tried Cs (G ∷ Gs) f → Divides p G f → claimed.Irreducible p G
  found_irreducible {Cs} {Gs} {G} {f} {e} m l u later t v = record { monic = to_claimed l m; no_product = no_product_lem }
    where
      no_product_lem : (a b : spec.Poly) → claimed.Monic p a → claimed.Monic p b → spec.mul p a b ≡ G → ⊥
      no_product_lem a b ma mb q =
          ⊎_elim (λ h. omega (arith, ap length h, degrees, mb.positive, ma.positive))
          (λ i. ⊎_elim (λ k. omega (arith, degrees, mb.positive, k)) (λ k. omega (arith, degrees, mb.positive, k.0)) (later a i))
          (Memᴰ.cases_cons (to_come t (from_claimed (omega arith) ma) ma.positive (omega (arith, degrees, m.reduced.len))
          (divides_trans (𝓩[x]/ p) factor v)))
        where
          degrees : spec.degree a + spec.degree b ≡ spec.degree G
          degrees =
              omega (arith, m.reduced.len, (monic_list_mul large (from_claimed (omega arith) ma) (from_claimed (omega arith) mb)).reduced.len, ap length q)

          factor : Divides p a G
          factor = (poly p b, (𝓩[x]/ p).*_comm (poly p b) (poly p a) ∙ sym (poly_mul p (omega arith) a b) ∙ ap (poly p) q)

  -- one candidate: G of degree e is taken out of f, of degree d, as often as it divides
  module _ {Cs Gs : List spec.Poly} {G f : spec.Poly} {e d : ℕ} (m_g : MonicList p e G) (low : 1 ≤ e) (high : e ≤ n) (mf : MonicList p d f) (fits : d ≤ n)
      (t : Tried Cs (G ∷ Gs) f) where
    abbrev k : ℕ
    k = highest p G f (spec.degree f)

    abbrev rest : spec.Poly
    rest = spec.quotient p (spec.pow p G k) f

    top : Highest large G f (spec.degree f) k
    top = highest_is large m_g f (spec.degree f)

    power : MonicList p (k * e) (spec.pow p G k)
    power = monic_list_pow large m_g k

    out : Exact large (k * e) d (spec.pow p G k) f
    out = exact large power mf top.divides

    poly_next : (j : ℕ) → poly p (spec.pow p G (suc j)) ≡ poly p G · poly p (spec.pow p G j)
    unfolding spec.pow
    poly_next j = poly_mul p (omega arith) G (spec.pow p G j)

    -- what divides the rest divides f
    rest_divides : (H : spec.Poly) → Divides p H rest → Divides p H f
    rest_divides H v = divides_trans (𝓩[x]/ p) v (poly p (spec.pow p G k), (𝓩[x]/ p).*_comm _ _ ∙ out.law)

    taken_out : Divides p G rest → ⊥
    taken_out (q, h) =
        ⊎_elim (λ l. top.top (suc k) (omega arith) l next) (λ l. omega
        (arith, (exact large (monic_list_pow large m_g (suc k)) mf next).low, mf.reduced.len, suc-mul k e, le-mul_of_pos_right k low))
        (lt_or_le k (spec.degree f))
      where
        next : Divides p (spec.pow p G (suc k)) f
        next = (
          q,
          ap (λ a. q · a) (poly_next k)
              ∙ sym ((𝓩[x]/ p).*_assoc q (poly p G) (poly p (spec.pow p G k)))
              ∙ ap (λ a. a · poly p (spec.pow p G k)) h ∙ out.law,
        )

    tried_more : Tried (Cs ++ (G ∷ [])) Gs rest
    tried_more = record {
      all = append_assoc Cs (G ∷ []) Gs ∙ t.all;
      gone = λ H i v. ⊎_elim (λ j. t.gone H j (rest_divides H v)) (λ j. taken_out (subst (λ x. Divides p x rest) (Memᴰ.eq_of_singleton j) v))
          (Memᴰ.append_cases Cs i);
    }

    later_found : All (items1to3.Before G) Gs → {Ps : List Power} → Found Gs rest Ps → Found (G ∷ Gs) f (listed G k ++ Ps)
    later_found later {Ps} F = go k refl
      where
        whole : spec.mul p (spec.pow p G k) rest ≡ f
        whole = exact_multiplies large power mf top.divides

        all_left : k ≡ 0 → rest ≡ f
        all_left z =
            monic_same (let q : d - k * e ≡ d = omega (arith, ap (λ (i : ℕ). i * e) z, zero-mul e) in q) out.monic mf
            (sym (mul_one (𝓩[x]/ p) (poly p rest))
            ∙ ap (λ a. poly p rest · a) (sym (ap (λ i. poly p (spec.pow p G i)) z ∙ (unfold spec.pow in poly_one p))) ∙ out.law)

        irreducible : (j : ℕ) → k ≡ suc j → claimed.Irreducible p G
        irreducible j z =
            found_irreducible m_g low high later t
            (divides_trans (𝓩[x]/ p) (
              poly p (spec.pow p G j),
              (𝓩[x]/ p).*_comm _ _
                  ∙ sym (poly_next j),
            ) (subst (λ i. Divides p (spec.pow p G i) f) z top.divides))

        go : (j : ℕ) → k ≡ j → Found (G ∷ Gs) f (listed G j ++ Ps)
        go zero z = unfold listed in record {
          among = λ P i. there (F.among P i);
          irreducible = F.irreducible;
          positive = F.positive;
          in_order = F.in_order;
          multiplies = F.multiplies ∙ all_left z;
        }
        go (suc j) z = unfold listed in record {
          among = λ P i. ⊎_elim (λ q. here (ap (λ (Q : Power). Q.base) q)) (λ h. there (F.among P h)) (Memᴰ.cases_cons i);
          irreducible =
              λ P i. ⊎_elim (λ q. subst (λ (Q : Power). claimed.Irreducible p Q.base) (sym q) (irreducible j z)) (F.irreducible P) (Memᴰ.cases_cons i);
          positive = λ P i. ⊎_elim (λ q. subst (λ (Q : Power). 1 ≤ Q.exponent) (sym q) (omega arith)) (F.positive P) (Memᴰ.cases_cons i);
          in_order = ((λ Q i. later Q.base (F.among Q i)), F.in_order);
          multiplies = unfold spec.product in ap₂ (λ (i : ℕ) (g : spec.Poly). spec.mul p (spec.pow p G i) g) (sym z) F.multiplies ∙ whole;
        }

  found : (Gs Cs : List spec.Poly) {f : spec.Poly} {d : ℕ} → MonicList p d f → d ≤ n → InOrder items1to3.Before Gs → Tried Cs Gs f
      → Found Gs f (powers_among p Gs f)
  unfolding powers_among
  found [] Cs mf fits s t = found_none mf fits t
  found (G ∷ Gs) Cs {f} {d} mf fits (later, s) t =
      let (e, l, u, m_g) = monics_to_member p large n (subst (λ c. G ∈ c) t.all (Memᴰ.append_right Cs (here refl))) in
      later_found m_g l u mf fits t later
      (found Gs (Cs ++ (G ∷ [])) (out m_g l u mf fits t).monic (omega arith) s (tried_more m_g l u mf fits t))

-- items 1 and 3 of a list f whose bar is monic
pub powers_hold_lem : (p : ℕ) → 1 < p → {d : ℕ} (f : spec.Poly) → MonicList p d (spec.reduce p f) → items1to3.PowersOf p (spec.reduce p f) (powers p f)
unfolding powers
powers_hold_lem p large {d} f m =
    let n : ℕ = spec.degree f in
    let F = found p large n (monics_to p n) [] m (omega (arith, m.reduced.len, length_reduce p f)) (monics_to_in_order p large n)
    (record { all = refl; gone = λ H i. elim i [ ] }) in
    record { irreducible = F.irreducible; positive = F.positive; in_order = F.in_order; multiplies = F.multiplies }
