use native.Mathlib.Omega.{arith}
use borrow.Author.Rules.{rules}
use Rattle.packet_octets.proofs.Numbers.{word_is}
use Rattle.packet_octets.proofs.word_at.Goals as goal

pub returns-clause-value : goal.returns-clause-value
returns-clause-value c = search (word_is, rules)

pub returns-clause-upper_bound : goal.returns-clause-upper_bound
returns-clause-upper_bound c = omega arith
