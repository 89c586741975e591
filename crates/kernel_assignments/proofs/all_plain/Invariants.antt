use mathlib.Core.Path.{◌≡◌}
use mathlib.Core.Bool.{◌&&◌}
use lib.ListN.{drop}
use Rattle.base.specs.Scans.{all}
use Rattle.kernel_rules.specs.Lines.{is_plain}
use Rattle.kernel_assignments.proofs.all_plain.Given as goal

abbrev pub invariant-loop-b : goal.invariant-loop-b
invariant-loop-b l = all is_plain l.l ≡ (l.good && all is_plain (drop l.b-index l.l))
