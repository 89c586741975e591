use borrow.Author.Rules.{rules}
use mathlib.Core.Path.{sym}
use lib.Seq.{length-take-le}
use native.Mathlib.Omega.{arith}
use Rattle.command_line.proofs.Lines.{line_text}
use Rattle.command_line.proofs.put_line.Goals as goal

pub slice_bounds-put_text-end : goal.slice_bounds-put_text-end
slice_bounds-put_text-end c = sym (length-take-le _ _ (omega arith))

pub returns : goal.returns
returns c = search (line_text, rules)
