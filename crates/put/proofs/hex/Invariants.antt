use Rattle.put.specs.Places.{Put}
use mathlib.Core.Path.{◌≡◌}
use lib.ListN.{length}
use Rattle.put.proofs.hex.Given as goal

abbrev pub invariant-loop-b : goal.invariant-loop-b
invariant-loop-b l = (length l.out ≡ length l.initial.out) × Put l.at l.initial.out l.place
