use mathlib.Core.Path.{refl}
use Rattle.kernel_assignments.proofs.Plain.{plain_start, plain_turn, plain_end}
use Rattle.kernel_assignments.proofs.all_plain.Goals as goal

pub loop-b-init : goal.loop-b-init
loop-b-init c = plain_start _

pub loop-b-preserved : goal.loop-b-preserved
loop-b-preserved c = plain_turn _ _ _ c.loop-b.invariant _ _ c.loop-b-test.true c.is_plain-good.ensures refl

pub returns : goal.returns
returns c = plain_end _ _ _ c.loop-b.invariant c.loop-b-test.false
