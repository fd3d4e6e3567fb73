-- `modp_element::splitting_element` meets its contract.
-- Assumes nothing.
use Rattle.modp_element.specs.Elements.{element_found, none_found}
use Rattle.modp_element.proofs.splitting_element.Goals as goal

pub returns-in_err-found : goal.returns-in_err-found
returns-in_err-found c =
    let h = c.requires in
    rw c.from_residual.ensures (none_found h.0 c.args.q.monic.monic c.images-t.ensures c.in_err-found.ensures.0)

pub returns : goal.returns
returns c = let h = c.requires in element_found h.0 c.args.q.monic.monic c.images-t.ensures c.in_ok-found.ensures.0
