-- Division by x − c, in place: `LinearDivided p c a q r`, the list q is the quotient of a and r the remainder; `Synthetic`, the loop of `divide_linear`.
-- Proves that the loop, which goes down from the highest term by two terms a turn, ends so, and that x − c divides a exactly where r is 0. Assumes nothing.
use Rattle.std.specs.Prelude.{◌≡◌, refl, List, ◌≢◌, ℕ, suc, ◌≤◌, ◌<◌, ◌%◌, ◌+◌, ◌*◌, length, get_or, set, drop}
use Rattle.std.proofs.Common.{sym, ◌∙◌, ap, ap₂, subst, mod-lt, mul_comm, arith, length-set, get_or-set_same, get_or-set_other, get_or-drop}
use Rattle.std.proofs.Math.Decide.{ℕ_discrete}
use Rattle.std.proofs.Math.Nat.{mod-add-mod, add-mod-mod}
use Rattle.algebra.specs.Numbers.{mul_mod_mod}
use Rattle.algebra.specs.Ring.{add_zero}
use Rattle.algebra.specs.Identities.{con, ◌⊕◌, ◌⊖◌, ◌⊗◌, ◌≈◌, solve}
use Rattle.algebra.specs.Divisibility.{◌∣◌}
use Rattle.algebra.specs.Residues.{residue, Residues, residue_zero, residue_add, residue_mul, residue_mod}
use Rattle.algebra.specs.PolynomialRing.{◌+ᴿ◌, ◌·◌, 𝟎, x, constant, constant_zero, constant_add, constant_mul, coef_zero, coef_constant_zero}
use Rattle.algebra.specs.Degree.{Below, below_𝟎, below_constant}
use Rattle.algebra.specs.Division.{divided_unique}
use Rattle.algebra.specs.CoefficientLists.{𝓩[x]/, poly, Reduced}
use Rattle.arrays.specs.Represents.{Within, poly_drop, poly_drop_none}
use Rattle.arrays.specs.SameEntries.{same_number, same_poly}
use Rattle.frobenius.specs.Evaluation.{linear, monic_linear}

-- a is q·(x − c) + r
pub record LinearDivided (p c : ℕ) (a q : List ℕ) (r : ℕ) : Type 0 where
  pub len : length q ≡ length a
  pub low : Within p q
  pub remainder : r < p
  pub law : poly p q · linear (residue p c) +ᴿ constant (residue p r) ≡ poly p a

module _ {p c : ℕ} {a q : List ℕ} {r : ℕ} (D : LinearDivided p c a q r) where
  -- the quotient is as long as a
  pub quotient_reduced : {k : ℕ} → Reduced p k a → Reduced p k q
  quotient_reduced h = record { len = D.len ∙ h.len; low = D.low }

  pub linear_exact : r ≡ 0 → poly p q · linear (residue p c) ≡ poly p a
  linear_exact e =
      sym (add_zero (𝓩[x]/ p) (poly p q · linear (residue p c)))
      ∙ ap (λ b. poly p q · linear (residue p c) +ᴿ b) (sym (ap constant (ap (residue p) e ∙ residue_zero p) ∙ constant_zero (Residues p)))
      ∙ D.law

  pub linear_not_divides : r ≢ 0 → ¬ (◌∣◌ (𝓩[x]/ p) (linear (residue p c)) (poly p a))
  linear_not_divides n (k, e) = n (same_number D.remainder (omega (arith, D.remainder)) (value ∙ sym (residue_zero p)))
    where
      same : constant {𝓡 = Residues p} (residue p r) ≡ 𝟎
      same =
          (divided_unique (monic_linear (residue p c)) (poly p q) (constant (residue p r)) k 𝟎 (below_constant (residue p r)) (below_𝟎 1)
          (D.law ∙ sym e ∙ sym (add_zero (𝓩[x]/ p) (k · linear (residue p c))))).1

      value : residue p r ≡ (Residues p).𝟘
      value = sym (coef_constant_zero (Residues p) (residue p r)) ∙ ap (λ b. b.coef 0) same ∙ coef_zero (Residues p) 0

-- from i on w is the quotient of the terms of a from i on, and b their value at c; below i it is a
pub record Synthetic (p c : ℕ) (a : List ℕ) (i : ℕ) (w : List ℕ) (b : ℕ) : Type 0 where
  pub limit : i ≤ length a
  pub len : length w ≡ length a
  pub low : Within p w
  pub remainder : b < p
  pub kept : (k : ℕ) → k < i → get_or w k 0 ≡ get_or a k 0
  pub law : poly p (drop i w) · linear (residue p c) +ᴿ constant (residue p b) ≡ poly p (drop i a)

-- two steps at once: b is multiplied by c², and not twice by c
two_steps : (p c b y z : ℕ) → ((z + y * c) % p + b * (c * c % p)) % p ≡ (z + (y + b * c) % p * c) % p
two_steps p c b y z =
    rw (mod-add-mod, mul_comm ((y + b * c) % p) c, remainder_in (z + y * c) b (c * c), remainder_in z c (y + b * c))
    (ap (λ (k : ℕ). k % p) (let e : z + y * c + b * (c * c) ≡ z + c * (y + b * c) = omega arith in e))
  where
    remainder_in : (k m n : ℕ) → (k + m * (n % p)) % p ≡ (k + m * n) % p
    remainder_in k m n =
        sym (add-mod-mod k (m * (n % p)) p) ∙ ap (λ (e : ℕ). (k + e) % p) (mul_mod_mod m n p) ∙ add-mod-mod k (m * n) p

module _ {p c : ℕ} {a : List ℕ} where
  pub synthetic_none : {s : ℕ} → 0 < p → s ≤ length a → Within p a → Below s (poly p a) → Synthetic p c a s a 0
  synthetic_none {s} pos l low below = record {
    limit = l;
    len = refl;
    low = low;
    remainder = pos;
    kept = λ k u. refl;
    law = ap₂ (λ e f. e · linear (residue p c) +ᴿ f) (poly_drop_none p a s below) (ap constant (residue_zero p) ∙ constant_zero (Residues p))
        ∙ solve (𝓩[x]/ p) 1 (λ l. con 0 ⊗ l ⊕ con 0 ≈ con 0) tt (linear (residue p c)) ∙ sym (poly_drop_none p a s below);
  }

  module _ {i : ℕ} {w : List ℕ} {b v : ℕ} (S : Synthetic p c a (suc i) w b) (is : v ≡ (get_or w i 0 + b * c) % p) where
    -- the entry that comes next is still that of a
    synthetic_next : get_or w i 0 ≡ get_or a i 0
    synthetic_next = S.kept i (omega arith)

    synthetic_step : Synthetic p c a i (set w i b) v
    synthetic_step = record {
      limit = omega (arith, S.limit);
      len = length-set w i b ∙ S.len;
      low = λ k. low k (ℕ_discrete k i);
      remainder = rw is (mod-lt _ pos);
      kept = λ k u. get_or-set_other w i k b 0 (omega arith) ∙ S.kept k (omega arith);
      law = ap₂ (λ e f. e · linear (residue p c) +ᴿ f) quotient value
          ∙ solve (𝓩[x]/ p) 5 (λ b x q c y. (b ⊕ x ⊗ q) ⊗ (x ⊖ c) ⊕ (y ⊕ b ⊗ c) ≈ y ⊕ x ⊗ (q ⊗ (x ⊖ c) ⊕ b)) tt
          (constant (residue p b)) x (poly p (drop (suc i) w)) (constant (residue p c)) (constant (residue p (get_or a i 0)))
          ∙ ap (λ e. constant (residue p (get_or a i 0)) +ᴿ x · e) S.law
          ∙ sym (poly_drop p a i (omega (arith, S.limit)));
    }
      where
        pos : 0 < p
        pos = omega (arith, S.remainder)

        inside : i < length w
        inside = omega (arith, S.limit, S.len)

        low : (k : ℕ) → Dec (k ≡ i) → get_or (set w i b) k 0 < p
        low k (yes e) = rw (e, get_or-set_same w i b 0 inside) S.remainder
        low k (no e) = rw (get_or-set_other w i k b 0 e) (S.low k)

        rest : poly p (drop (suc i) (set w i b)) ≡ poly p (drop (suc i) w)
        rest = same_poly p (drop (suc i) (set w i b)) (drop (suc i) w) (λ k.
            get_or-drop (suc i) (set w i b) k 0 ∙ get_or-set_other w i (suc i + k) b 0 (omega arith) ∙ sym (get_or-drop (suc i) w k 0))

        quotient : poly p (drop i (set w i b)) ≡ constant (residue p b) +ᴿ x · poly p (drop (suc i) w)
        quotient =
            poly_drop p (set w i b) i (omega (arith, inside, length-set w i b))
            ∙ ap₂ (λ e f. constant (residue p e) +ᴿ x · f) (get_or-set_same w i b 0 inside) rest

        value : constant {𝓡 = Residues p} (residue p v) ≡ constant (residue p (get_or a i 0)) +ᴿ constant (residue p b) · constant (residue p c)
        value =
            ap constant (ap (residue p) is ∙ residue_mod p pos _ ∙ residue_add p (get_or w i 0) (b * c)
            ∙ ap₂ (Residues p).add (ap (residue p) synthetic_next) (residue_mul p b c))
            ∙ constant_add (residue p (get_or a i 0)) ((Residues p).mul (residue p b) (residue p c))
            ∙ ap (λ e. constant (residue p (get_or a i 0)) +ᴿ e) (constant_mul (residue p b) (residue p c))

  -- one term more, the term j below i
  pub synthetic_more : {i j : ℕ} {w : List ℕ} {b v : ℕ} → i ≡ suc j → Synthetic p c a i w b → v ≡ (get_or w j 0 + b * c) % p
      → Synthetic p c a j (set w j b) v
  synthetic_more {w = w} {b} next S is = synthetic_step (subst (λ k. Synthetic p c a k w b) next S) is

  -- two terms more, the terms j + 1 and j below i, where q is c² and t the value of these two alone
  pub synthetic_two : {i j : ℕ} {w : List ℕ} {b q t u v : ℕ} → i ≡ suc (suc j) → Synthetic p c a i w b → q ≡ c * c % p
      → t ≡ (get_or w j 0 + get_or w (j + 1) 0 * c) % p → u ≡ (get_or w (j + 1) 0 + b * c) % p → v ≡ (t + b * q) % p
      → Synthetic p c a j (set (set w (j + 1) b) j u) v
  synthetic_two {j = j} {w} {b} {q} {t} {u} {v} next S square low high is = synthetic_more (omega arith) (synthetic_more (omega arith) S high) both
    where
      both : v ≡ (get_or (set w (j + 1) b) j 0 + u * c) % p
      both =
          is ∙ rw (square, low, high, get_or-set_other w (j + 1) j b 0 (omega arith)) (two_steps p c b (get_or w (j + 1) 0) (get_or w j 0))

  pub synthetic_done : {i : ℕ} {w : List ℕ} {b : ℕ} → i ≤ 0 → Synthetic p c a i w b → LinearDivided p c a w b
  synthetic_done {i} {w} {b} z h = done (subst (λ k. Synthetic p c a k w b) (let e : i ≡ 0 = omega arith in e) h)
    where
      done : Synthetic p c a 0 w b → LinearDivided p c a w b
      done S = record { len = S.len; low = S.low; remainder = S.remainder; law = S.law }
