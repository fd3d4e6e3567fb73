-- Loops that store into an array entry by entry: `Replaced d f a k r i` says that r is a with the entries from k up to i replaced by
-- f's values. Proves how such a loop begins and goes on, upwards and downwards, and what holds of every entry of r. Assumes nothing.
use Rattle.std.specs.Prelude.{◌≡◌, refl, List, ℕ, ◌+◌, ◌<◌, ◌≤◌, length, get_or, set}
use Rattle.std.proofs.Common.{◌∙◌, le_refl, arith, length-set, get_or-set_same, get_or-set_other}
use Rattle.std.proofs.Math.Decide.{ℕ_discrete, dec_lt}

module _ {A : Type 0} where
  -- d is what is read past an array's end
  pub record Replaced (d : A) (f : ℕ → A) (a : List A) (k : ℕ) (r : List A) (i : ℕ) : Type 0 where
    pub reach : k ≤ i
    pub len : length r ≡ length a
    pub below : (j : ℕ) → j < k → get_or r j d ≡ get_or a j d
    pub new : (j : ℕ) → k ≤ j → j < i → get_or r j d ≡ f j
    pub above : (j : ℕ) → i ≤ j → get_or r j d ≡ get_or a j d

  pub replaced_none : {d : A} {f : ℕ → A} {a : List A} {k : ℕ} → Replaced d f a k a k
  replaced_none {k = k} = record { reach = le_refl k; len = refl; below = λ j l. refl; new = λ j l u. absurd (omega arith); above = λ j l. refl }

  pub replaced_more : {d : A} {f : ℕ → A} {a : List A} {k : ℕ} {r : List A} {i : ℕ} {v : A} →
      Replaced d f a k r i → i < length a → v ≡ f i → Replaced d f a k (set r i v) (i + 1)
  replaced_more {d} {f} {a} {k} {r} {i} {v} w h e = record {
    reach = omega arith;
    len = length-set r i v ∙ w.len;
    below = λ j l. get_or-set_other r i j v d (omega arith) ∙ w.below j l;
    new = λ j l u. at j l u (ℕ_discrete j i);
    above = λ j l. get_or-set_other r i j v d (omega arith) ∙ w.above j (omega arith);
  }
    where
      at : (j : ℕ) → k ≤ j → j < i + 1 → Dec (j ≡ i) → get_or (set r i v) j d ≡ f j
      at j l u (yes q) = rw q (get_or-set_same r i v d (omega (arith, w.len)) ∙ e)
      at j l u (no q) = get_or-set_other r i j v d q ∙ w.new j l (omega (arith, q))

  -- one more entry at the lower end
  pub replaced_down : {d : A} {f : ℕ → A} {a : List A} {k : ℕ} {r : List A} {i : ℕ} {v : A} →
      Replaced d f a (k + 1) r i → k < length a → v ≡ f k → Replaced d f a k (set r k v) i
  replaced_down {d} {f} {a} {k} {r} {i} {v} w h e = record {
    reach = omega (arith, w.reach);
    len = length-set r k v ∙ w.len;
    below = λ j l. get_or-set_other r k j v d (omega arith) ∙ w.below j (omega arith);
    new = λ j l u. at j l u (ℕ_discrete j k);
    above = λ j l. get_or-set_other r k j v d (omega (arith, w.reach)) ∙ w.above j l;
  }
    where
      at : (j : ℕ) → k ≤ j → j < i → Dec (j ≡ k) → get_or (set r k v) j d ≡ f j
      at j l u (yes q) = rw q (get_or-set_same r k v d (omega (arith, w.len)) ∙ e)
      at j l u (no q) = get_or-set_other r k j v d q ∙ w.new j (omega (arith, q)) u

  -- what holds of the entries of a below k and from i on, and of the new ones between, holds of every entry of r
  pub replaced_each : {d : A} {f : ℕ → A} {a : List A} {k : ℕ} {r : List A} {i : ℕ} (P : ℕ → A → Type 0) → Replaced d f a k r i
      → ((j : ℕ) → j < k → P j (get_or a j d)) → ((j : ℕ) → k ≤ j → j < i → P j (f j)) → ((j : ℕ) → i ≤ j → P j (get_or a j d))
      → (j : ℕ) → P j (get_or r j d)
  replaced_each {d} {k = k} {r} {i} P w low new high j = at (dec_lt j k) (dec_lt j i)
    where
      at : Dec (j < k) → Dec (j < i) → P j (get_or r j d)
      at (yes l) u = rw (w.below j l) (low j l)
      at (no l) (yes u) = rw (w.new j (omega (arith, l)) u) (new j (omega (arith, l)) u)
      at (no l) (no u) = rw (w.above j (omega (arith, u))) (high j (omega (arith, u)))
