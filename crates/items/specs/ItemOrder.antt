-- The order of item 3 on monic polynomials: by degree, then by coefficients from the highest power down.
-- Proves that it is a strict order, and that of two different ones of degree 1 or more one comes before the other. Assumes nothing.
use Rattle.std.specs.Prelude.{◌≡◌, refl, [], ◌∷◌, ◌⊎◌, ◌≢◌, ℕ, ◌≤◌, ◌<◌, length}
use Rattle.std.proofs.Common.{sym, ◌∙◌, ap₂, subst, inl, inr, ⊎_elim, eq-or-lt_of_le, arith}
use Rattle.specification.specs.Polynomials.{Poly, degree}
use Rattle.specification.specs.Items1to3.{Smaller, Before}
use Rattle.algebra.specs.Numbers.{lt_or_le}
use Rattle.lists.specs.InOrder.{StrictOrder}

pub smaller_irreflexive : (f : Poly) → Smaller f f → ⊥
smaller_irreflexive [] s = s
smaller_irreflexive (a ∷ f) s = ⊎_elim (smaller_irreflexive f) (λ (e, l). omega arith) s

smaller_transitive : (f g h : Poly) → Smaller f g → Smaller g h → Smaller f h
smaller_transitive [] g h s t = absurd s
smaller_transitive (a ∷ f) [] h s t = absurd s
smaller_transitive (a ∷ f) (b ∷ g) [] s t = absurd t
smaller_transitive (a ∷ f) (b ∷ g) (c ∷ h) s t =
    ⊎_elim
    (λ u. ⊎_elim (λ v. inl (smaller_transitive f g h u v)) (λ (e, l). inl (subst (Smaller f) e u)) t)
    (λ (e, l). ⊎_elim (λ v. inl (subst (λ x. Smaller x h) (sym e) v)) (λ (q, k). inr (e ∙ q, omega arith)) t) s

pub item_3 : StrictOrder Before
item_3 = record {
  irreflexive = λ {a = f} s. ⊎_elim (λ l. omega arith) (λ (e, t). smaller_irreflexive f t) s;
  transitive = λ {a = f} {b = g} {c = h} s t.
      ⊎_elim
      (λ l. ⊎_elim (λ k. inl (omega arith)) (λ (e, v). inl (omega arith)) t)
      (λ (e, u). ⊎_elim (λ k. inl (omega arith)) (λ (q, v). inr (e ∙ q, smaller_transitive f g h u v)) t) s;
}

trichotomy : (a b : ℕ) → (a < b) ⊎ ((a ≡ b) ⊎ (b < a))
trichotomy a b = ⊎_elim inl (λ l. inr (⊎_elim (λ e. inl (sym e)) inr (eq-or-lt_of_le l))) (lt_or_le a b)

-- of two lists of one length, one is smaller, or they are equal
one_smaller : (f g : Poly) → length f ≡ length g → Smaller f g ⊎ ((f ≡ g) ⊎ Smaller g f)
one_smaller [] [] e = inr (inl refl)
one_smaller [] (b ∷ g) e = absurd (omega arith)
one_smaller (a ∷ f) [] e = absurd (omega arith)
one_smaller (a ∷ f) (b ∷ g) e = go (one_smaller f g (omega arith)) (trichotomy a b)
  where
    go : Smaller f g ⊎ ((f ≡ g) ⊎ Smaller g f) → (a < b) ⊎ ((a ≡ b) ⊎ (b < a))
        → Smaller (a ∷ f) (b ∷ g) ⊎ (((a ∷ f) ≡ (b ∷ g)) ⊎ Smaller (b ∷ g) (a ∷ f))
    go (inl s) t = inl (inl s)
    go (inr (inr s)) t = inr (inr (inl s))
    go (inr (inl q)) (inl l) = inl (inr (q, l))
    go (inr (inl q)) (inr (inl r)) = inr (inl (ap₂ ◌∷◌ r q))
    go (inr (inl q)) (inr (inr l)) = inr (inr (inr (sym q, l)))

pub one_before : {f g : Poly} → 1 ≤ degree f → 1 ≤ degree g → f ≢ g → Before f g ⊎ Before g f
one_before {f} {g} lf lg n = go (trichotomy (degree f) (degree g))
  where
    go : (degree f < degree g) ⊎ ((degree f ≡ degree g) ⊎ (degree g < degree f)) → Before f g ⊎ Before g f
    go (inl l) = inl (inl l)
    go (inr (inr l)) = inr (inl l)
    go (inr (inl e)) =
        ⊎_elim (λ s. inl (inr (e, s))) (λ t. ⊎_elim (λ q. absurd (n q)) (λ s. inr (inr (sym e, s))) t)
        (one_smaller f g (let l : length f ≡ length g = omega arith in l))
