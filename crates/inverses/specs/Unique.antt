-- Inverses modulo n: there is at most one below n.
-- Proves that the definition `inverse` gives it where there is one. Assumes nothing.
use Rattle.std.specs.Prelude.{◌≡◌, Bool, eqb}
use Rattle.std.proofs.Common.{sym, ◌∙◌, ap, subst, mul-one, mod-eq_of_lt, arith, eqb→eq}
use Prim.Native.Nat.{ℕ, ◌*◌, ◌%◌, ◌<◌, zero-le}
use Rattle.std.proofs.Math.Dec.{T}
use Rattle.algebra.specs.Numbers.{mul_mod_mod}
use Rattle.specification.specs.Inverses.{inverse}
use Rattle.specification.specs.Lists.{up_from, below}
use Rattle.lists.specs.Firsts.{first_passes}
use Rattle.lists.specs.NumbersFrom.{up_from_member, up_from_has}

module _ (n a : ℕ) where
  -- b = b·(c·a) = c·(b·a) = c
  pub unique : (b c : ℕ) → b < n → c < n → b * a % n ≡ 1 → c * a % n ≡ 1 → b ≡ c
  unique b c hb hc eb ec = sym (times b c hb ec) ∙ ap (λ x. x % n) (omega arith) ∙ times c b hc eb
    where
      times : (x y : ℕ) → x < n → y * a % n ≡ 1 → x * (y * a) % n ≡ x
      times x y h e = sym (mul_mod_mod x (y * a) n) ∙ rw (e, mul-one) (mod-eq_of_lt h)

  leaves_one_lem : ℕ → Bool
  leaves_one_lem b = eqb (b * a % n) 1

  pub inverse_is : (b : ℕ) → b < n → b * a % n ≡ 1 → inverse n a ≡ b
  unfolding inverse below leaves_one_lem
  inverse_is b h e =
      let (i, t) = first_passes leaves_one_lem 0 (up_from 0 n) (up_from_has 0 n zero-le (omega arith)) (subst (λ (m : ℕ). T (eqb m 1)) (sym e) tt) in
      unique (inverse n a) b (omega (arith, (up_from_member 0 n i).1)) h (eqb→eq (inverse n a * a % n) 1 t) e
