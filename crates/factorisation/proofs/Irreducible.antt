-- Proves that two irreducible polynomials over a field are equal or coprime. Assumes nothing.
use Rattle.std.specs.Prelude.{◌≡◌, ◌⊎◌, ◌≢◌}
use Rattle.std.proofs.Common.{◌∙◌, inl, inr, ⊎_elim}
use Rattle.algebra.specs.Ring.{CommRing}
use Rattle.algebra.specs.Divisibility.{◌∣◌, Coprime}
use Rattle.algebra.specs.PolynomialRing.{Poly, PolyRing, 𝟏}
use Rattle.algebra.specs.Fields.{Field}
use Rattle.factorisation.specs.Irreducible.{Irreducible, irreducible_prime, monic_divisor}

module _ {R : Type 0} {𝓡 : CommRing R} (field : Field 𝓡) where
  pub same_or_coprime : {G H : Poly 𝓡} → Irreducible G → Irreducible H → (G ≡ H) ⊎ Coprime (PolyRing 𝓡) G H
  same_or_coprime {G} {H} I J = go ((irreducible_prime field I).test H)
    where
      go : (◌∣◌ (PolyRing 𝓡) G H) ⊎ Coprime (PolyRing 𝓡) G H → (G ≡ H) ⊎ Coprime (PolyRing 𝓡) G H
      go (inr c) = inr c
      go (inl d) =
          ⊎_elim (λ e. absurd ((irreducible_prime field I).nonunit (𝟏, (PolyRing 𝓡).*_one G ∙ e))) (λ e. inl e) (monic_divisor field J I.monic d)

  pub different_coprime : {G H : Poly 𝓡} → Irreducible G → Irreducible H → G ≢ H → Coprime (PolyRing 𝓡) G H
  different_coprime I J n = ⊎_elim (λ e. absurd (n e)) (λ c. c) (same_or_coprime I J)
