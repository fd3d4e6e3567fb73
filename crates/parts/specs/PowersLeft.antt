-- What is left of f while its parts are cut off one after the other: `Left p f e L`, f is monic of degree e modulo p², and its bar is the product of the powers
-- in L, which are in the order of item 3. `FirstPart p f e x r`: r has the part over the power x, split, and what it leaves of f.
-- Proves that such a part can be cut off, if another power is left, and is the whole if none is; what is left then; and that the degrees tell which. Assumes
-- nothing.
use Rattle.std.specs.Prelude.{◌≡◌, refl, List, [], ◌∷◌, map, ◌≢◌, ℕ, ◌≤◌, ◌<◌, ◌-◌}
use Rattle.std.proofs.Common.{sym, ◌∙◌, ap, subst, arith}
use Rattle.std.proofs.lemmas.Simd.{map-map}
use mathlib.Core.List.Memᴰ.{head as here}
use mathlib.Core.List.Memᴰ.{tail as there}
use Rattle.specification.specs.Items1to3.{Before}
use Rattle.specification.specs.Limits.{◌²}
use Rattle.algebra.specs.Numbers.{square_large}
use Rattle.algebra.specs.Ring.{CommRing}
use Rattle.algebra.specs.Divisibility.{Coprime, pow, product, product_nil, product_one, product_cons}
use Rattle.algebra.specs.PolynomialRing.{◌·◌}
use Rattle.algebra.specs.Degree.{Monic, monic_one_lem, monic_mul_lem}
use Rattle.algebra.specs.Fields.{Prime, residue_field, residue_nontrivial}
use Rattle.algebra.specs.TakenPrimes.{is_prime_lem}
use Rattle.algebra.specs.CoefficientLists.{ℤ[x]/, poly, 𝓩[x]/}
use Rattle.algebra.specs.Monomials.{x^, shift_zero}
use Rattle.arrays.specs.Represents.{Represents}
use Rattle.arrays.specs.Held.{MonicArray, MonicModSquare, poly_monic}
use Rattle.arrays.specs.MonomialArray.{IsMonomial, monomial_represents, monomial_monic}
use Rattle.lists.specs.Members.{All, all_tail, all_map}
use Rattle.lists.specs.Sums.{total, total_nil, total_cons}
use Rattle.lists.specs.InOrder.{InOrder}
use Rattle.factorisation.specs.Irreducible.{Irreducible}
use Rattle.factorisation.specs.MonicDivisors.{monic_degree, monic_cancel_eq}
use Rattle.factorisation.specs.UniqueFactorisation.{power, power_coprime}
use Rattle.factorisation.proofs.UniqueFactorisation.{coprime_powers}
use Rattle.items.specs.ItemOrder.{item_3}
use Rattle.items.specs.Factorisations.{monic_equal}
use Rattle.items.specs.Reductions.{bar_monic_lem}
use Rattle.items.specs.ArrayLists.{digits_array}
use Rattle.modp_factors.specs.declared.Power.{Power}
use Rattle.modp_factors.specs.Factors.{power_poly, PowerBefore, PowerHeld}
use Rattle.part_lift.specs.Cuttable.{Cuttable}
use Rattle.part_lift.specs.CutOff.{CutOff}
use Rattle.part_values.specs.Given.{Given}
use Rattle.part_verdict.specs.declared.Part.{Part}
use Rattle.part_verdict.specs.PartFound.{PartFound}
use Rattle.parts.specs.declared.PartAndRest.{PartAndRest}
use Rattle.parts.specs.PowerParts.{power_degree, power_base, base_list, power_monic, power_positive, power_lifted, power_bar, part_given}

pub record Left (p : ℕ) (f : List ℕ) (e : ℕ) (L : List Power) : Type 0 where
  pub monic : MonicModSquare p f e
  pub held : All (PowerHeld p) L
  pub in_order : InOrder PowerBefore L
  pub multiplies : product (𝓩[x]/ p) (map (power_poly p) L) ≡ poly p f

-- f is coefs, a part whose bar is the power x, times what r has as rest
pub record FirstPart (p : ℕ) (f : List ℕ) (e : ℕ) (x : Power) (r : PartAndRest) : Type 0 where
  pub coefs : List ℕ
  pub array : MonicArray (p ²) (power_degree x) coefs
  pub bar : poly p coefs ≡ power_poly p x
  pub found : PartFound p coefs (power_degree x) r.part
  pub degree : r.degree ≡ e - power_degree x
  pub rest : MonicArray (p ²) r.degree r.rest
  pub bar_rest : (a : ℤ[x]/ p) → power_poly p x · a ≡ poly p f → poly p r.rest ≡ a
  pub multiplies : poly (p ²) coefs · poly (p ²) r.rest ≡ poly (p ²) f

module _ {p : ℕ} (prime : Prime p) where
  abbrev 𝓑 : CommRing (ℤ[x]/ p)
  𝓑 = 𝓩[x]/ p

  large : 1 < p
  large = prime.large

  abbrev all : List Power → ℤ[x]/ p
  all L = product 𝓑 (map (power_poly p) L)

  -- the product of powers is monic
  powers_monic : (L : List Power) → All (PowerHeld p) L → Monic (total power_degree L) (all L)
  powers_monic [] h = rw (total_nil power_degree, product_nil 𝓑) monic_one_lem
  powers_monic (x ∷ L) h =
      rw (total_cons power_degree x L, product_cons 𝓑 (power_poly p x) (map (power_poly p) L))
      (monic_mul_lem (power_monic prime (h x (here refl))) (powers_monic L (all_tail h)))

  module _ {x : Power} {L : List Power} (h : All (PowerHeld p) (x ∷ L)) (o : InOrder PowerBefore (x ∷ L)) where
    abbrev pair : Power → ℤ[x]/ p × ℕ
    pair y = (poly p y.base, y.exponent)

    -- different bases
    differ : (y : Power) → PowerHeld p y → PowerBefore x y → poly p x.base ≢ poly p y.base
    differ y k b e =
        item_3.irreflexive {a = power_base x} (subst (λ G. Before (power_base x) G) (sym same) b)
      where
        same : power_base x ≡ power_base y
        same =
            monic_equal large (base_list prime (h x (here refl))) (base_list prime k)
            (poly_monic (h x (here refl)).array ∙ e ∙ sym (poly_monic k.array))

    others_coprime : Coprime 𝓑 (power_poly p x) (all L)
    others_coprime =
        power_coprime (pair x) (subst (Coprime 𝓑 (poly p x.base)) (ap (product 𝓑) (map-map power pair L))
        (coprime_powers (residue_field p prime) (h x (here refl)).irreducible (map pair L)
        (all_map (λ P. Irreducible P.0) pair L (λ y i. (all_tail h y i).irreducible))
        (all_map (λ P. poly p x.base ≢ P.0) pair L (λ y i. differ y (all_tail h y i) (o.0 y i)))))

module _ {p : ℕ} {f : List ℕ} {e : ℕ} {L : List Power} (w : Left p f e L) where
  prime : Prime p
  prime = is_prime_lem w.monic.prime

  degrees : total power_degree L ≡ e
  degrees =
      monic_degree (residue_nontrivial prime.large) (subst (Monic (total power_degree L)) w.multiplies (powers_monic prime L w.held))
      (bar_monic_lem p prime.large f w.monic.array.monic)

module _ {p : ℕ} {f : List ℕ} {e : ℕ} {x : Power} {L : List Power} (w : Left p f e (x ∷ L)) where
  pub first_held : PowerHeld p x
  first_held = w.held x (here refl)

  -- G, read modulo p²
  pub first_lifted : MonicArray (p ²) x.degree x.base
  first_lifted = digits_array (prime w).large first_held.array

  first_multiplies : power_poly p x · all (prime w) L ≡ poly p f
  first_multiplies = sym (product_cons (𝓩[x]/ p) (power_poly p x) (map (power_poly p) L)) ∙ w.multiplies

  pub first_fits : power_degree x ≤ 32
  first_fits = omega (arith, degrees w, total_cons power_degree x L, w.monic.array.fits)

module _ {p : ℕ} {f : List ℕ} {e : ℕ} {x y : Power} {L : List Power} (w : Left p f e (x ∷ y ∷ L)) where
  pub first_less : power_degree x < e
  first_less =
      omega (
        arith,
        degrees w,
        total_cons power_degree x (y ∷ L),
        total_cons power_degree y L,
        power_positive (prime w) (w.held y (there (here refl))),
      )

  -- b is G^m, read modulo p²
  module _ {b : List ℕ} (r : Represents (p ²) b (pow (𝓩[x]/ (p ²)) (poly (p ²) x.base) x.exponent)) where
    bar_is : poly p b ≡ power_poly p x
    bar_is = power_bar (prime w) (first_held w) r

    pub first_cuttable : Cuttable p f e b (power_degree x)
    first_cuttable = record {
      monic = w.monic;
      base = power_lifted (prime w) (first_held w) r (omega (arith, first_fits w));
      positive = power_positive (prime w) (first_held w);
      less = first_less;
      other = all (prime w) (y ∷ L);
      multiplies = ap (λ a. a · all (prime w) (y ∷ L)) bar_is ∙ first_multiplies w;
      coprime = subst (λ a. Coprime (𝓩[x]/ p) a (all (prime w) (y ∷ L))) (sym bar_is) (others_coprime (prime w) w.held w.in_order);
    }

    module _ {a next : List ℕ} (c : CutOff p f e b (power_degree x) a next) where
      pub first_given : Given p x.base x.degree x.exponent a
      first_given = part_given (prime w) (first_held w) c.part (c.bar_part ∙ bar_is) w.monic.prime

      pub first_found : {part : Part} → PartFound p a (power_degree x) part → FirstPart p f e x (record { part = part; rest = next; degree = e - power_degree x })
      first_found t = record {
        coefs = a;
        array = c.part;
        bar = c.bar_part ∙ bar_is;
        found = t;
        degree = refl;
        rest = c.rest;
        bar_rest = λ q m. c.bar_rest q (ap (λ z. z · q) bar_is ∙ m);
        multiplies = c.multiplies;
      }

  pub left_more : {r : PartAndRest} → FirstPart p f e x r → Left p r.rest r.degree (y ∷ L)
  left_more c = record {
    monic = record { prime = w.monic.prime; positive = omega (arith, c.degree, first_less); array = c.rest };
    held = all_tail w.held;
    in_order = w.in_order.1;
    multiplies = sym (c.bar_rest (all (prime w) (y ∷ L)) (first_multiplies w));
  }

-- one power is left: f is a part over it
module _ {p : ℕ} {f : List ℕ} {e : ℕ} {x : Power} (w : Left p f e (x ∷ [])) where
  last_degree : power_degree x ≡ e
  last_degree = omega (arith, degrees w, total_cons power_degree x [], total_nil power_degree)

  last_array : MonicArray (p ²) (power_degree x) f
  last_array = subst (λ k. MonicArray (p ²) k f) (sym last_degree) w.monic.array

  last_bar : poly p f ≡ power_poly p x
  last_bar = sym w.multiplies ∙ product_one (𝓩[x]/ p) (power_poly p x)

  pub last_given : Given p x.base x.degree x.exponent f
  last_given = part_given (prime w) (first_held w) last_array last_bar w.monic.prime

  -- it leaves 1
  pub last_found : {part : Part} {one : List ℕ} → PartFound p f (power_degree x) part → IsMonomial 0 one
      → FirstPart p f e x (record { part = part; rest = one; degree = 0 })
  last_found {one = one} t m = record {
    coefs = f;
    array = last_array;
    bar = last_bar;
    found = t;
    degree = omega (arith, last_degree);
    rest = monomial_monic m large²;
    bar_rest = λ a q.
        let g = power_poly p x in
        (monomial_represents m large).is
        ∙ monic_cancel_eq (power_monic (prime w) (first_held w)) (shift_zero g ∙ sym last_bar ∙ sym q ∙ (𝓩[x]/ p).*_comm g a);
    multiplies = ap (λ a. poly (p ²) f · a) (monomial_represents m large²).is ∙ (𝓩[x]/ (p ²)).*_comm (poly (p ²) f) (x^ 0) ∙ shift_zero (poly (p ²) f);
  }
    where
      large : 1 < p
      large = (prime w).large

      large² : 1 < p ²
      large² = square_large p large

-- ---- which of the two, by the degrees

module _ {p : ℕ} {f : List ℕ} {e : ℕ} {x : Power} where
  pub none_after : (L : List Power) → Left p f e (x ∷ L) → power_degree x ≡ e → Left p f e (x ∷ [])
  none_after [] w q = w
  none_after (y ∷ L) w q = absurd (omega (arith, first_less w, q))

  pub some_after : (L : List Power) → Left p f e (x ∷ L) → power_degree x ≢ e → (y : Power) × (M : List Power) × Left p f e (x ∷ y ∷ M)
  some_after [] w n = absurd (n (last_degree w))
  some_after (y ∷ L) w n = (y, L, w)
