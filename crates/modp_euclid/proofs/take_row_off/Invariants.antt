-- `modp_euclid::take_row_off`: the loop is that of `take_off`, with as much taken off the cofactor.
use Rattle.modp_euclid.specs.RowTakenOff.{TakingRow}
use Rattle.modp_euclid.proofs.take_row_off.Given as goal

abbrev pub invariant-loop-high : goal.invariant-loop-high
invariant-loop-high l =
    TakingRow l.p l.s l.e l.t (record { remainder = l.fn.a; cofactor = l.fn.u }) (record { remainder = l.g; cofactor = l.v }) l.high
    (record { remainder = l.a; cofactor = l.u })
