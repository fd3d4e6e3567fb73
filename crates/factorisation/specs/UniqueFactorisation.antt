-- Factorisations of f over a field into powers G^m of different irreducible G, as lists of pairs (G, m): `PowersOf f l`; `Others P f`, what is left of f
-- beside a power. Proves laws of such products. Assumes nothing.
use Rattle.std.specs.Prelude.{◌≡◌, List, ◌∷◌, map, ◌≢◌, ℕ, ◌≤◌}
use Rattle.algebra.specs.Ring.{CommRing}
use Rattle.algebra.specs.Divisibility.{Coprime, pow, product, product_cons, coprime_sym, coprime_pow}
use Rattle.algebra.specs.PolynomialRing.{Poly, PolyRing, ◌·◌}
use Rattle.lists.specs.Members.{All}
use Rattle.lists.specs.InOrder.{InOrder}
use Rattle.factorisation.specs.Irreducible.{Irreducible}

module _ {R : Type 0} {𝓡 : CommRing R} where
  -- "G to the m"
  abbrev pub power : Poly 𝓡 × ℕ → Poly 𝓡
  power P = pow (PolyRing 𝓡) P.0 P.1

  abbrev pub powers : List (Poly 𝓡 × ℕ) → Poly 𝓡
  powers l = product (PolyRing 𝓡) (map power l)

  pub powers_cons : (P : Poly 𝓡 × ℕ) (l : List (Poly 𝓡 × ℕ)) → powers (P ∷ l) ≡ power P · powers l
  powers_cons P l = product_cons (PolyRing 𝓡) (power P) (map power l)

  -- "a product of powers of different monic irreducible G"
  pub record PowersOf (f : Poly 𝓡) (l : List (Poly 𝓡 × ℕ)) : Type 0 where
    pub irreducible : All (λ P. Irreducible P.0) l
    pub positive : All (λ P. 1 ≤ P.1) l
    pub different : InOrder (λ P Q. P.0 ≢ Q.0) l
    pub multiplies : powers l ≡ f

  -- the product of the others
  pub record Others (P : Poly 𝓡 × ℕ) (f : Poly 𝓡) : Type 0 where
    pub rest : Poly 𝓡
    pub multiplies : power P · rest ≡ f
    pub coprime : Coprime (PolyRing 𝓡) P.0 rest

  pub power_coprime : (P : Poly 𝓡 × ℕ) {c : Poly 𝓡} → Coprime (PolyRing 𝓡) P.0 c → Coprime (PolyRing 𝓡) (power P) c
  power_coprime P c = coprime_sym (PolyRing 𝓡) (coprime_pow (PolyRing 𝓡) P.1 (coprime_sym (PolyRing 𝓡) c))
