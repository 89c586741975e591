use Rattle.packet_octets.proofs.Numbers.{Read}
use Rattle.packet_octets.proofs.number_at.Given as goal

abbrev pub invariant-loop-i : goal.invariant-loop-i
invariant-loop-i l = Read l.s l.at l.n l.i l.x
