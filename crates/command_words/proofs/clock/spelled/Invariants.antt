use Prim.Native.Nat.{◌≤◌}
use mathlib.Core.Path.{◌≡◌}
use lib.ListN.{drop}
use Rattle.command_words.specs.Clock.{spelled_behind, spelled}
use Rattle.command_words.proofs.clock.spelled.Given as goal

abbrev pub invariant-loop-byte : goal.invariant-loop-byte
invariant-loop-byte l = (spelled l.limit l.w ≡ spelled_behind l.limit l.value (drop l.byte-index l.w)) × (l.value ≤ l.limit)
