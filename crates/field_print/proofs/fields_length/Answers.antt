use borrow.Author.Rules.{rules}
use native.Mathlib.Omega.{arith}
use Rattle.field_print.proofs.Widths.{widths_start, widths_next, widths_done}
use Rattle.field_print.proofs.fields_length.Goals as goal

pub loop-i-init : goal.loop-i-init
loop-i-init c = (omega arith, search (widths_start, rules), omega arith)

pub loop-i-preserved : goal.loop-i-preserved
loop-i-preserved c = (omega arith, search (widths_next, rules), omega arith)

pub returns-clause-value : goal.returns-clause-value
returns-clause-value c = search (widths_done, rules)
