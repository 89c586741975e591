use Prim.Native.Nat.{◌-◌}
use Rattle.packet_rules.specs.Octets.{octets}
use Rattle.decimal.proofs.RightToLeft.{Left}
use Rattle.packet_octets.proofs.write_octets.Given as goal

abbrev pub invariant-loop-at : goal.invariant-loop-at
invariant-loop-at l = Left (octets l.n l.x) (octets (l.at - l.start) l.rest) l.end l.at l.initial.buffer l.buffer
