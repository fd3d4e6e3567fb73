-- The shapes of the specification's coefficient lists.
-- Proves how long powers of x, sums, multiples and products are, and that their entries are below the modulus. Assumes nothing.
use Rattle.std.specs.Prelude.{◌≡◌, refl, List, [], ◌∷◌, map, ℕ, suc, ◌≤◌, ◌<◌, ◌+◌, ◌*◌, ◌%◌, ◌-◌, length, get_or, take, replicate}
use Rattle.std.proofs.Common.{sym, ◌∙◌, ap, ⊎_elim, mod-lt, arith, length-append, length-take, get_or-take}
use Rattle.std.proofs.Math.Nat.{zero-mod}
use Rattle.std.proofs.Math.ListN
use Rattle.std.proofs.lemmas.List.{length-map, length-replicate}
use Rattle.std.proofs.Math.ListN.{get_or-eq_default}
use Rattle.specification.specs.Polynomials.{degree, monomial, plus, multiple, shift, times, reduce, add, scale, sub, mul}
use Rattle.lists.specs.Places.{read_replicate}
use Rattle.algebra.specs.Numbers.{lt_or_le}

pub degree_monomial : (n : ℕ) → degree (monomial n) ≡ n
degree_monomial n = omega (arith, length-append {A = ℕ} (replicate n 0) (1 ∷ []), length-replicate {A = ℕ} n 0)

length_plus : (f g : List ℕ) → length g ≤ length f → length (plus f g) ≡ length f
unfolding plus
length_plus [] [] h = refl
length_plus [] (b ∷ g) h = absurd (omega arith)
length_plus (a ∷ f) [] h = refl
length_plus (a ∷ f) (b ∷ g) h = ap suc (length_plus f g (omega arith))

length_plus_right : (f g : List ℕ) → length f ≤ length g → length (plus f g) ≡ length g
unfolding plus
length_plus_right [] g h = refl
length_plus_right (a ∷ f) [] h = absurd (omega arith)
length_plus_right (a ∷ f) (b ∷ g) h = ap suc (length_plus_right f g (omega arith))

length_multiple : (c : ℕ) (f : List ℕ) → length (multiple c f) ≡ length f
unfolding multiple
length_multiple c f = length-map f (λ (a : ℕ). c * a)

pub length_reduce : (n : ℕ) (f : List ℕ) → length (reduce n f) ≡ length f
unfolding reduce
length_reduce n f = length-map f (λ (a : ℕ). a % n)

pub length_scale : (n c : ℕ) (f : List ℕ) → length (scale n c f) ≡ length f
unfolding scale
length_scale n c f = length_reduce n (multiple c f) ∙ length_multiple c f

pub length_add : (n : ℕ) (f g : List ℕ) → length g ≤ length f → length (add n f g) ≡ length f
unfolding add
length_add n f g h = length_reduce n (plus f g) ∙ length_plus f g h

pub length_sub : (n : ℕ) (f g : List ℕ) → length g ≤ length f → length (sub n f g) ≡ length f
unfolding sub
length_sub n f g h = length_add n f (scale n (n - 1) g) (omega (arith, length_scale n (n - 1) g))

length_shift : (f : List ℕ) → 0 < length f → length (shift f) ≡ suc (length f)
unfolding shift
length_shift [] h = absurd (omega arith)
length_shift (a ∷ f) h = refl

-- degrees add
pub length_times : (a b : ℕ) (f g : List ℕ) → length (times (a ∷ f) (b ∷ g)) ≡ suc (length f + length g)
unfolding times shift
length_times a b [] g = length_plus (multiple a (b ∷ g)) [] (omega arith) ∙ length_multiple a (b ∷ g) ∙ omega arith
length_times a b (c ∷ f) g =
    let shorter : length (times (c ∷ f) (b ∷ g)) ≡ suc (length f + length g) = length_times c b f g in
    let longer : length (shift (times (c ∷ f) (b ∷ g))) ≡ suc (length (times (c ∷ f) (b ∷ g))) =
    length_shift (times (c ∷ f) (b ∷ g)) (omega arith) in
    length_plus_right (multiple a (b ∷ g)) (shift (times (c ∷ f) (b ∷ g))) (omega (arith, length_multiple a (b ∷ g)))
    ∙ longer ∙ omega arith

pub length_mul : (n : ℕ) (f g : List ℕ) {d e : ℕ} → length f ≡ suc d → length g ≡ suc e → length (mul n f g) ≡ suc (d + e)
unfolding mul
length_mul n [] g h k = absurd (omega arith)
length_mul n (a ∷ f) [] h k = absurd (omega arith)
length_mul n (a ∷ f) (b ∷ g) h k = length_reduce n (times (a ∷ f) (b ∷ g)) ∙ length_times a b f g ∙ omega arith

-- a list of zeros is 0 everywhere
pub get_d_zeros : (k j : ℕ) → ◌≡◌ {A = ℕ} (get_or (replicate k 0) j 0) 0
get_d_zeros k j = read_replicate 0 k j

-- ---- entries below the modulus

-- a function that keeps 0, on each entry
pub get_d_map : (g : ℕ → ℕ) → g 0 ≡ 0 → (f : List ℕ) (k : ℕ) → get_or (map g f) k 0 ≡ g (get_or f k 0)
get_d_map g e f k = ap (get_or (map g f) k) (sym e) ∙ ListN.get_or-map g f k 0

pub get_d_reduce : (n : ℕ) (f : List ℕ) (k : ℕ) → get_or (reduce n f) k 0 ≡ get_or f k 0 % n
unfolding reduce
get_d_reduce n f k = get_d_map (λ (a : ℕ). a % n) (zero-mod n) f k

module _ (n : ℕ) (pos : 0 < n) where
  pub low_reduce : (f : List ℕ) (k : ℕ) → get_or (reduce n f) k 0 < n
  low_reduce f k = rw get_d_reduce (mod-lt (get_or f k 0) pos)

  pub low_take : (d : ℕ) (f : List ℕ) → ((k : ℕ) → get_or f k 0 < n) → (k : ℕ) → get_or (take d f) k 0 < n
  low_take d f h k = ⊎_elim (λ l. rw (get_or-take d f k 0 l) (h k)) (λ l. rw (past l) pos) (lt_or_le k d)
    where
      past : d ≤ k → get_or (take d f) k 0 ≡ 0
      past l = get_or-eq_default (take d f) 0 {n = k} (omega (arith, length-take d f))
