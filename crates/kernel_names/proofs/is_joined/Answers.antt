use lib.Seq.{length-take-le}
use mathlib.Core.Path.{sym}
use native.Mathlib.Omega.{arith}
use Rattle.kernel_names.proofs.NameParts.{joined_length, joined_other, joined_rest}
use borrow.Author.Rules.{rules}
use Rattle.kernel_names.proofs.is_joined.Goals as goal

pub returns-then-w-end : goal.returns-then-w-end
returns-then-w-end c = joined_length c.args.w.now c.args.a.now c.args.b.now (λ e. omega arith)

pub slice_bounds-same-end : goal.slice_bounds-same-end
slice_bounds-same-end c = sym (length-take-le _ _ (omega arith))

pub returns-then-not-same : goal.returns-then-not-same
returns-then-not-same c = search (joined_other, rules)

pub returns : goal.returns
returns c = search (joined_rest, rules)
