-- What was written is the copy, or the refusal, of what was read, which is that of the whole input.
use Rattle.std.proofs.Common.{sym, ap, subst, arith}
use Rattle.std.specs.Io.KnownBytes.{Appends}
use Rattle.specification.specs.SheetClaims.{sheet_limit}
use Rattle.specification.specs.Text.{copied}
use Rattle.area.specs.Wrote.{length_wrote}
use Rattle.copy_output.specs.GivenOut.{copied_prefix}
use Rattle.split_text.proofs.WrittenOut.{written_out}
use Rattle.streams.proofs.Decided.{decided}
use Rattle.copy.proofs.run.Goals as goal

pub run-requires-clause-within : goal.run-requires-clause-within
run-requires-clause-within g c area bytes n left w = omega (arith, w.fits, length_wrote w)

pub returns : goal.returns
returns g c well =
    let (count, read, written) = c.run.ensures well in
    decided _ sheet_limit count c.run.new.buf
    (λ xs ys l. subst (Appends _ _) (sym (copied_prefix xs ys l)))
    (omega (arith, c.input-sheet.ensures, c.run.auto.buf))
    read.fits
    (written_out _ _ written.called (ap copied written.bytes_are) written.written)
    _ _ read.bytes read.end
