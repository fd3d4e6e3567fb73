-- A part of an array lent to a call, `f(&mut a[k..])`: `mid_of k s a` is the s entries of a from k on, and `put_mid k s a r` is a with r in their place.
-- Proves how long a part is, which entries it has, and that the whole is a with these entries replaced by those of r. Assumes nothing.
use Rattle.std.specs.Prelude.{◌≡◌, List, ◌++◌, ℕ, ◌+◌, ◌-◌, ◌<◌, ◌≤◌, length, get_or, take, drop}
use Rattle.std.proofs.Common.{◌∙◌, subst, arith, length-drop, length-take-le, get_or-take, get_or-drop, get_or-append-add}
use Rattle.std.proofs.Math.ListN.{get_or-append}
use borrow.Rule.Slice.PartMut.{mid_of, put_mid, same_len_mid}
use Rattle.lists.specs.Entries.{Replaced}
use Rattle.lists.specs.Places.{from_end}

-- d is what is read past an array's end
module _ {A : Type 0} (d : A) (k s : ℕ) (a : List A) (fits : k + s ≤ length a) where
  pub part_length : length (mid_of k s a) ≡ s
  part_length = length-take-le s (drop k a) (omega (arith, length-drop k a))

  pub part_entry : (i : ℕ) → i < s → get_or (mid_of k s a) i d ≡ get_or a (k + i) d
  part_entry i l = get_or-take s (drop k a) i d l ∙ get_or-drop k a i d

  pub part_past : (i : ℕ) → s ≤ i → get_or (mid_of k s a) i d ≡ d
  part_past i l = from_end d (mid_of k s a) s (omega (arith, part_length)) i l

  -- the callee gave back r
  module _ (r : List A) (same : length r ≡ length (mid_of k s a)) where
    long : length r ≡ s
    long = same ∙ part_length

    start : length (take k a) ≡ k
    start = length-take-le k a (omega arith)

    from : (i : ℕ) → get_or (put_mid k s a r) (k + i) d ≡ get_or (r ++ drop s (drop k a)) i d
    from i = subst (λ (t : ℕ). get_or (put_mid k s a r) (t + i) d ≡ get_or (r ++ drop s (drop k a)) i d) start (get_or-append-add (take k a) _ i d)

    inside : (i : ℕ) → i < s → get_or (put_mid k s a r) (k + i) d ≡ get_or r i d
    inside i l = from i ∙ get_or-append r _ d i (omega (arith, long))

    after : (i : ℕ) → get_or (put_mid k s a r) (k + (s + i)) d ≡ get_or a (k + (s + i)) d
    after i =
        from (s + i) ∙ subst (λ (t : ℕ). get_or (r ++ drop s (drop k a)) (t + i) d ≡ get_or (drop s (drop k a)) i d) long (get_or-append-add r _ i d)
        ∙ get_or-drop s (drop k a) i d ∙ get_or-drop k a (s + i) d

    pub part_replaced : Replaced d (λ j. get_or r (j - k) d) a k (put_mid k s a r) (k + s)
    part_replaced = record {
      reach = omega arith;
      len = same_len_mid k s a r same;
      below = λ j l. get_or-append (take k a) _ d j (omega (arith, start)) ∙ get_or-take k a j d l;
      new = λ j l u. subst (λ (t : ℕ). get_or (put_mid k s a r) t d ≡ get_or r (j - k) d) (let e : k + (j - k) ≡ j = omega arith in e)
          (inside (j - k) (omega arith));
      above = λ j l. subst (λ (t : ℕ). get_or (put_mid k s a r) t d ≡ get_or a t d) (let e : k + (s + (j - k - s)) ≡ j = omega arith in e) (after (j - k - s));
    }
