use borrow.Author.Rules.{rules}
use native.Mathlib.Omega.{arith}
use Rattle.doubles.proofs.Tests.{exact}
use Rattle.rules.specs.Doubles.{tick_of}
use Rattle.doubles.proofs.tick.Goals as goal

pub int_to_float-result : goal.int_to_float-result
int_to_float-result c = exact _ (omega arith)

pub returns : goal.returns
unfolding tick_of
returns c = search rules
