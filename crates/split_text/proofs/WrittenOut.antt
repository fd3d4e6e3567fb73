-- A text written into the area from its start, of which as many bytes are given out as it has: the writer has got the text. Assumes nothing.
use Rattle.std.proofs.Common.{◌≡◌, List, ℕ, Option, sym, ◌∙◌, ap, subst, take, take_at}
use Rattle.std.specs.Io.KnownBytes.{Appends}
use Rattle.area.specs.Wrote.{Wrote, wrote_from_start}

pub written_out : {old left text same : List ℕ} {count : ℕ} (held holds : Option (List ℕ)) → Wrote old left 0 text count → text ≡ same
    → Appends held holds (take count left) → Appends held holds same
written_out held holds w e =
    let wrote = wrote_from_start w in subst (Appends held holds) (ap (take _) wrote.1 ∙ take_at _ _ _ (sym wrote.0) ∙ e)
