use mathlib.Core.Path.{◌≡◌}
use lib.ListN.{drop}
use Rattle.base.specs.Scans.{among}
use Rattle.parse.proofs.earliest.Given as goal

-- no `/` so far
abbrev pub invariant-loop-i : goal.invariant-loop-i
invariant-loop-i l = among 47 (drop l.stop l.text) ≡ among 47 (drop l.i l.text)
