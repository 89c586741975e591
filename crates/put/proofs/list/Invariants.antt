use Rattle.put.specs.Places.{Put}
use mathlib.Core.Path.{◌≡◌}
use lib.ListN.{length}
use Rattle.put.proofs.list.Given as goal

abbrev pub invariant-loop-value : goal.invariant-loop-value
invariant-loop-value g l = (length l.out ≡ length l.initial.out) × Put l.at l.fn.out l.place
