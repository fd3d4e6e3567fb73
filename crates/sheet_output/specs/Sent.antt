-- What is given out for a typed line: `Sent line old new r`, from the start of the area old stands what `SheetSent` says of the line, r bytes long.
-- Proves this of a call that wrote a sheet, and of one that was turned back, once the line of its refusal is written; and that what follows the first 256
-- bytes changes nothing. Assumes nothing.
use Rattle.std.specs.Prelude.{◌≡◌, refl, ◌⊎◌, ◌≢◌, List, ◌++◌, ℕ, ◌≤◌, ◌<◌, length}
use Rattle.std.proofs.Common.{sym, ◌∙◌, ap, ap₂, subst, inl, inr, le_refl, arith, eq-eqb, ne_eqb, length-append}
use Rattle.specification.specs.Limits.{answer_area, line_limit}
use Rattle.specification.specs.Calls as calls
use Rattle.specification.specs.TypedLines.{Typed, long_line}
use Rattle.specification.specs.TypedClaims.{typed_sheet}
use Rattle.specification.specs.Text as text
use Rattle.specification.specs.Text.{refusal_text, SheetSent}
use Rattle.layouts.specs.SheetSize.{sheet_fits}
use Rattle.grammar.proofs.TypedOutcomes.{typed_once}
use Rattle.grammar.specs.TypedOutcomes.{typed_area, TypedNumbers, typed_numbers}
use Rattle.area.specs.Wrote.{Wrote, Room, from_start_wrote}
use Rattle.splitter.specs.declared.Outcome.{Outcome}
use Rattle.splitter.specs.Outcomes.{TypedCall}
use Rattle.splitter.specs.CallLaws.{written_is}
use Rattle.splitter.specs.TypedLaws.{typed_settled, sheet_typed}
use Rattle.split_text.specs.TextSize.{sized_room, refusal_line}

pub record Sent (line old new : List ℕ) (r : ℕ) : Type 0 where
  pub bytes : List ℕ
  pub sent : SheetSent line bytes
  pub wrote : Wrote old new 0 bytes r

-- a line of more than 255 bytes is turned back as one, whatever follows
pub sent_prefix : (xs ys bytes : List ℕ) → line_limit < length xs → SheetSent xs bytes → SheetSent (xs ++ ys) bytes
sent_prefix xs ys bytes l (o, typed, is) = (
  o,
  long_line (le_refl answer_area) (omega (arith, length-append xs ys)) (typed_once typed (long_line (le_refl answer_area) l refl)),
  is,
)

sent_number : (o : calls.Outcome) → o.number ≡ 0 → text.sent o ≡ o.bytes
unfolding text.sent
sent_number o e = rw (eq-eqb o.number 0 e)

sent_refusal : (o : calls.Outcome) → o.number ≢ 0 → text.sent o ≡ refusal_text o.number o.place
unfolding text.sent
sent_refusal o ne = rw (ne_eqb o.number 0 ne)

-- ---- after the call

module _ (line : List ℕ) {r : Outcome} {old new : List ℕ} (l : answer_area ≤ length old) (h : TypedCall line r old new) where
  as_area : Typed answer_area line h.outcome
  as_area = typed_area l (le_refl answer_area) h.typed

  -- the sheet's bytes stand in the area
  pub sheet_sent : r.number ≡ 0 → Sent line old new r.count
  sheet_sent z =
      let s = sheet_typed line h z in
      let bytes = sym (written_is h.called) ∙ s.is in record {
        bytes = h.outcome.bytes;
        sent = (h.outcome, as_area, sym (sent_number h.outcome (sym h.called.number ∙ z)));
        wrote = from_start_wrote h.called.count h.called.area
            (omega (arith, l, ap length (sym (written_is h.called) ∙ s.is), sheet_fits (typed_sheet s.prime s.tree) s.good));
      }

  -- ---- turned back: the area is as it was

  module _ (ne : r.number ≢ 0) where
    abbrev refusal : List ℕ
    refusal = refusal_text r.number r.place

    same : new ≡ old
    same = ((typed_settled line h).unchanged ne).0

    low_number : (o : calls.Outcome) → TypedNumbers line o → o.number < 1000
    low_number o n = at n.number
      where
        at : (o.number ≡ 0) ⊎ (o.number ≡ 1) ⊎ (o.number ≡ 4) ⊎ (o.number ≡ 15) ⊎ (o.number ≡ 16) ⊎ (o.number ≡ 17) → o.number < 1000
        at (inl e) = omega (arith, e)
        at (inr (inl e)) = omega (arith, e)
        at (inr (inr (inl e))) = omega (arith, e)
        at (inr (inr (inr (inl e)))) = omega (arith, e)
        at (inr (inr (inr (inr (inl e))))) = omega (arith, e)
        at (inr (inr (inr (inr (inr e))))) = omega (arith, e)

    pub refusal_room : Room new 0 refusal
    refusal_room =
        let n = typed_numbers h.typed in
        let number = low_number h.outcome n in
        subst (λ (area : List ℕ). Room area 0 refusal) (sym same)
        (sized_room (refusal_line r.number r.place (omega (arith, h.called.number, number)) (omega (arith, h.called.place, n.limit)))
        (omega (arith, l)))

    pub refusal_sent : {newer : List ℕ} {after : ℕ} → Wrote new newer 0 refusal after → Sent line old newer after
    refusal_sent {newer} {after} w = record {
      bytes = refusal;
      sent = (
        h.outcome,
        as_area,
        ap₂ refusal_text h.called.number h.called.place ∙ sym (sent_refusal h.outcome (λ z. ne (h.called.number ∙ z))),
      );
      wrote = subst (λ (area : List ℕ). Wrote area newer 0 refusal after) same w;
    }
