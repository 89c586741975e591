use Prim.Native.Nat.{◌-◌}
use Rattle.rules.specs.Print.{last_digits}
use Rattle.decimal.proofs.RightToLeft.{Left}
use Rattle.decimal.proofs.write_digits.Given as goal

abbrev pub invariant-loop-at : goal.invariant-loop-at
invariant-loop-at l = Left (last_digits l.width l.x) (last_digits (l.at - l.start) l.rest) l.end l.at l.initial.buffer l.buffer
