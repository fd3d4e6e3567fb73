-- `line_reader::prime_in` meets its contract.
-- Assumes nothing.
use Rattle.std.proofs.Common.{arith, ◌<◌}
use Rattle.std.proofs.lemmas.Result.{OkIff-decides}
use Rattle.line_reader.proofs.Judging.{no_prime_high}
use Rattle.line_reader.proofs.prime_in.Goals as goal

pub returns-in_err-ok : goal.returns-in_err-ok
returns-in_err-ok c =
    let fits = (OkIff-decides c.try_from.result _ _ c.try_from.ensures).1 in
    let none : c.args.v < 256 → ⊥ = λ l. (let e = fits l in cc (e, c.in_err-ok.ensures.variant)) in
    rw c.from_residual.ensures (no_prime_high (omega (arith, none)))
