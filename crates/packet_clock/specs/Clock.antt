-- What accepting a packet's clock answers, and the named facts of what it accepts.
use Rattle.std.specs.Prelude.{◌≤◌}
use Rattle.rules.specs.declared.Layout.{Layout}
use Rattle.rules.specs.Answer.{Answer, answer}
use Rattle.rules.specs.Limits.{largest_msf}
use Rattle.rules.specs.Layout.{unit_of}
use Rattle.rules.specs.Partitions.{Partitions, total_of}
use Rattle.tables.specs.declared.Basis.{Basis}
use Rattle.tables.specs.Accept.{basis, StampsFacts}
use Rattle.packet_rules.specs.Read.{accepted_clock, second_modulus}

unfoldable pub clock_basis : Layout → Partitions → Answer Basis
clock_basis l p = accepted_clock l p (answer (basis (unit_of l) (total_of p)))

pub record ClockFacts (l : Layout) (p : Partitions) (b : Basis) : Type 0 where
  pub stamps : StampsFacts l p b
  pub modulus : second_modulus l ≤ largest_msf
