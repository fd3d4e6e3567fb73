-- `modular::modulo` meets its contract.
-- Assumes nothing.
use borrow.Author.Rules.{rules}
use Rattle.modular.proofs.Entrywise.{modulo_done}
use Rattle.modular.proofs.modulo.Goals as goal

pub returns : goal.returns
returns c = modulo_done _ c.requires (search rules) c.loop-i.invariant (search rules)
