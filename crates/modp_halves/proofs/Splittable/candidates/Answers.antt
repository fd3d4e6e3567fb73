-- `modp_halves::Splittable::candidates` meets its contract.
-- Assumes nothing.
use Rattle.std.specs.Prelude.{IfSome}
use Rattle.modp_halves.specs.Candidates.{Vanishing, all_candidates, value_candidates}
use Rattle.modp_halves.proofs.Splittable.candidates.Goals as goal
use Rattle.modp_halves.proofs.Splittable.candidates.Goals.{in-Some, in-None}

pub returns : goal.returns
returns c =
    let known : IfSome c.match-vanishing.found (λ m. Vanishing c.args.self.q.n c.args.self.q.coefs c.args.self.v m.degree m.coefs) =
    elim c.match-vanishing.branch [ in-Some w ↦ rw w.found-is w.in-Some.ensures | in-None w ↦ rw w.found-is w.vanishing-found.ensures ] in
    value_candidates c.args.self.halvable.prime (rw c.in-Some-found.is at known) c.values.ensures

pub returns-in_default : goal.returns-in_default
returns-in_default c = all_candidates _ _ _
