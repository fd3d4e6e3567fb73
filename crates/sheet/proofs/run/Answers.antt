-- What was written is the sheet, or the refusal, of what was read, which is that of the whole input.
use Rattle.std.proofs.Common.{◌≡◌, refl, List, ℕ, Option, subst, arith, take}
use Rattle.std.specs.Io.KnownBytes.{Appends}
use Rattle.specification.specs.Limits.{line_limit}
use Rattle.specification.specs.Text.{SheetSent}
use Rattle.area.specs.Wrote.{length_wrote}
use Rattle.split_text.proofs.WrittenOut.{written_out}
use Rattle.sheet_output.specs.Sent.{Sent, sent_prefix}
use Rattle.streams.proofs.Decided.{decided}
use Rattle.sheet.proofs.run.Goals as goal

written_is : {old left read bytes : List ℕ} {count : ℕ} (held holds : Option (List ℕ))
    → Sent read old left count → read ≡ bytes → Appends held holds (take count left) → (sent : List ℕ) × SheetSent bytes sent × Appends held holds sent
written_is held holds s e a = (s.bytes, subst (λ r. SheetSent r s.bytes) e s.sent, written_out held holds s.wrote refl a)

pub run-requires-clause-within : goal.run-requires-clause-within
run-requires-clause-within g c area bytes n left w = omega (arith, w.wrote.fits, length_wrote (w.wrote))

pub returns : goal.returns
returns g c well =
    let (count, read, written) = c.run.ensures well in
    decided _ line_limit count c.run.new.buf
    (λ xs ys l t. (t.0, sent_prefix xs ys t.0 l t.1, t.2))
    (omega (arith, c.run.auto.buf))
    read.fits
    (written_is _ _ written.called written.bytes_are written.written)
    _ _ read.bytes read.end
