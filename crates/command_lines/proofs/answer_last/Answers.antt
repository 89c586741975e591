use borrow.Author.Rules.{rules}
use mathlib.Core.Path.{sym}
use lib.Seq.{length-take-le}
use native.Mathlib.Omega.{arith}
use Rattle.command_lines.proofs.Pieces.{last_put, none_left}
use Rattle.command_lines.proofs.answer_last.Goals as goal

pub slice_bounds-put_line-end : goal.slice_bounds-put_line-end
slice_bounds-put_line-end c = sym (length-take-le _ _ (omega arith))

pub returns-then-kept-gt0 : goal.returns-then-kept-gt0
returns-then-kept-gt0 c = search (last_put, rules)

pub returns : goal.returns
returns c = search (none_left, rules)
