use Prim.Native.Nat.{◌≤◌}
use Rattle.script_words.proofs.numbers.digits.Given as goal

abbrev pub invariant-loop-i : goal.invariant-loop-i
invariant-loop-i l = l.value ≤ l.limit
