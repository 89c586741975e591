use borrow.Author.Rules.{rules}
use mathlib.Core.Path.{sym}
use lib.Seq.{length-take-le}
use native.Mathlib.Omega.{arith}
use Rattle.command_lines.proofs.Pieces.{ended_put, open_put}
use Rattle.command_lines.proofs.put_ended.Goals as goal

pub slice_bounds-put_line-end : goal.slice_bounds-put_line-end
slice_bounds-put_line-end c = sym (length-take-le _ _ (omega arith))

pub returns-then-step : goal.returns-then-step
returns-then-step c = search (ended_put, rules)

pub returns : goal.returns
returns c = search (open_put, rules)
