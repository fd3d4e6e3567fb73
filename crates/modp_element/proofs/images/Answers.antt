-- `modp_element::images` meets its contract.
-- Assumes nothing.
use Rattle.std.proofs.Common.{arith}
use Rattle.quotients.proofs.PowerTurns.{power_more}
use Rattle.modp_dependency.specs.RemainderImages.{images_done}
use Rattle.modp_element.specs.Images.{first_power, images_none, images_more}
use Rattle.modp_element.proofs.images.Goals as goal

pub returns-then-q-lt2 : goal.returns-then-q-lt2
returns-then-q-lt2 c = images_done c.requires.1 (omega arith) (images_none (omega (arith, c.requires.0)))

pub loop-i-init : goal.loop-i-init
loop-i-init c = (images_none (omega (arith, c.requires.0)), first_power c.power_of_x-y.ensures)

pub loop-i-preserved : goal.loop-i-preserved
loop-i-preserved c =
    let w = c.loop-i.invariant in (
      images_more c.loop-i-test.true (omega (arith, c.args.q.monic.fits, c.loop-i-test.true)) w.0 w.1 c.less_power.ensures,
      power_more _ _ _ _ w.1 c.next_power-next.ensures,
    )
