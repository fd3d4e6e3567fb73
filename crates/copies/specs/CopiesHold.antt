-- What is claimed of copies, of every sheet.
-- Proves that a copy has the prime, the degree and the answer's pairs, sorted, and nothing else; that sheets have the same copy exactly where they are alike
-- in these figures; and that a call shows nothing but the figures or the number. Assumes nothing.
use Rattle.std.specs.Prelude.{◌≡◌, ◌↔◌, ℕ, ◌≤◌, ◌<◌}
use Rattle.std.proofs.Math.Path.{refl, ap, subst}
use Rattle.std.proofs.Common.{sym, ◌∙◌, inl, inr, ⊎_elim, arith, lt-ltb, le-ltb}
use mathlib.Core.List.{List, Perm}
use Rattle.specification.specs.Limits.{answer_area}
use Rattle.specification.specs.Polynomials.{degree}
use Rattle.specification.specs.Sheets.{Sheet, Reading, accepted, fault, read_sheet}
use Rattle.specification.specs.Answers.{answer}
use Rattle.specification.specs.Calls.{Outcome, success, refused, within}
use Rattle.specification.specs.Copy.{Pair, sorted, pairs_of, Figures, figures_of, copy_of, Visible, figures, visible, shown, copy_call}
use Rattle.specification.specs.CopyClaims.{SortedFrom, pairs_in, copy, Copying, Alike, SeenAlike, NothingElseSeen}
use Rattle.algebra.specs.Numbers.{lt_or_le}
use Rattle.layouts.specs.ReaderBounds.{numbered_within}
use Rattle.layouts.specs.SheetLength.{fault_number}
use Rattle.layouts.specs.AnswerLayout.{sheet_parts}
use Rattle.copies.specs.SortedPairs.{sorts, sorted_alike}
use Rattle.copies.specs.CopyReadBack.{same_figures, answer_pairs}

abbrev sheet_pairs : Sheet → List Pair
sheet_pairs s = pairs_of (sheet_parts s)

pub copying : (s : Sheet) → Copying s
unfolding figures_of
copying s = record {
  holds = record { pairs = sorted (sheet_pairs s); sorted_from = rw (answer_pairs s) (sorts (sheet_pairs s)).holds; layout = refl };
  only = λ bytes c.
      c.layout
      ∙ ap (λ (l : List Pair). copy_of (record { prime = s.prime; degree = degree s.poly; pairs = l }))
      ((sorts (sheet_pairs s)).only c.pairs (subst (λ (l : List Pair). SortedFrom l c.pairs) (answer_pairs s) c.sorted_from));
}

-- ---- two sheets

module _ (s t : Sheet) where
  figures_alike : Alike s t → figures_of s ≡ figures_of t
  unfolding figures_of
  figures_alike a =
      let pairs : Perm (sheet_pairs s) (sheet_pairs t) = subst (λ (l : List Pair). Perm l (sheet_pairs t)) (answer_pairs s)
      (subst (λ (l : List Pair). Perm (pairs_in (answer s)) l) (answer_pairs t) a.pairs) in
      rw (sorted_alike pairs, a.prime, a.degree) refl

  alike_figures : figures_of s ≡ figures_of t → Alike s t
  unfolding figures_of
  alike_figures e = record {
    prime = ap (λ (g : Figures). g.prime) e;
    degree = ap (λ (g : Figures). g.degree) e;
    pairs = rw (answer_pairs s, answer_pairs t)
        (mathlib.Core.List.Perm.trans (mathlib.Core.List.Perm.symm (sorts (sheet_pairs s)).holds.same_pairs)
        (subst (λ (l : List Pair). Perm l (sheet_pairs t)) (sym (ap (λ (g : Figures). g.pairs) e)) (sorts (sheet_pairs t)).holds.same_pairs));
  }

  pub alike_exactly : Alike s t ↔ (copy s ≡ copy t)
  alike_exactly = ((λ a. ap copy_of (figures_alike a)), (λ e. alike_figures (same_figures (figures_of s) (figures_of t) e)))

-- ---- what is seen of bytes

pub seen_visible : (b c : List ℕ) → SeenAlike b c → visible (read_sheet b) ≡ visible (read_sheet c)
unfolding visible
seen_visible b c (inl (s, t, e, f, a)) = ap visible e ∙ ap figures (figures_alike s t a) ∙ sym (ap visible f)
seen_visible b c (inr (k, i, j, e, f)) = ap visible e ∙ sym (ap visible f)

module _ (bytes : List ℕ) where
  pub shown_accepted : (s : Sheet) → read_sheet bytes ≡ accepted s → shown (visible (read_sheet bytes)) ≡ success (copy s)
  shown_accepted s e = rw e (unfold visible shown in refl)

  pub shown_refused : (k at : ℕ) → read_sheet bytes ≡ fault k at → shown (visible (read_sheet bytes)) ≡ refused k 0
  shown_refused k at e = rw e (unfold visible shown in refl)

-- ---- calls

module _ (area : ℕ) (bytes : List ℕ) where
  pub call_short : area < answer_area → copy_call area bytes ≡ refused 1 0
  unfolding copy_call
  call_short l = rw (lt-ltb area answer_area l) refl

  pub call_shown : answer_area ≤ area → copy_call area bytes ≡ shown (visible (read_sheet bytes))
  unfolding copy_call
  call_shown l = rw (le-ltb area answer_area l) refl

module _ (b c : List ℕ) (same : shown (visible (read_sheet b)) ≡ shown (visible (read_sheet c))) where
  -- an accepted sheet is told from a refused one: no number is 0
  told_alike : (x y : Reading) → read_sheet b ≡ x → read_sheet c ≡ y → SeenAlike b c
  told_alike (accepted s) (accepted t) e f =
      inl (s, t, e, f, (alike_exactly s t).1 (ap (λ (o : Outcome). o.bytes) (sym (shown_accepted b s e) ∙ same ∙ shown_accepted c t f)))
  told_alike (accepted s) (fault k at) e f =
      let number : ◌≡◌ {A = ℕ} 0 k = ap (λ (o : Outcome). o.number) (sym (shown_accepted b s e) ∙ same ∙ shown_refused c k at f) in
      absurd (omega (arith, numbered_within k (fault_number c k at f)))
  told_alike (fault k at) (accepted t) e f =
      let number : ◌≡◌ {A = ℕ} k 0 = ap (λ (o : Outcome). o.number) (sym (shown_refused b k at e) ∙ same ∙ shown_accepted c t f) in
      absurd (omega (arith, numbered_within k (fault_number b k at e)))
  told_alike (fault k i) (fault m j) e f =
      let number : k ≡ m = ap (λ (o : Outcome). o.number) (sym (shown_refused b k i e) ∙ same ∙ shown_refused c m j f) in
      inr (k, i, j, e, f ∙ ap (λ (n : ℕ). fault n j) (sym number))

pub nothing_else_seen : NothingElseSeen
nothing_else_seen area b c = (⊎_elim short same, λ e. ⊎_elim inl (λ l. inr (told e l)) (lt_or_le area answer_area))
  where
    short : area < answer_area → copy_call area b ≡ copy_call area c
    short l = call_short area b l ∙ sym (call_short area c l)

    same : SeenAlike b c → copy_call area b ≡ copy_call area c
    same a = unfold copy_call in ap (λ (v : Visible). within area (shown v)) (seen_visible b c a)

    told : copy_call area b ≡ copy_call area c → answer_area ≤ area → SeenAlike b c
    told e l = told_alike b c (sym (call_shown area b l) ∙ e ∙ call_shown area c l) (read_sheet b) (read_sheet c) refl refl
