use Rattle.fields.specs.Pass.{sum_with}
use Rattle.fields.proofs.sum_with.Goals as goal

pub returns : goal.returns
unfolding sum_with
returns c = rw (c.mul_add_capped.ensures, c.ticks_in.ensures)
