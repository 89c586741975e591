use Prim.Native.Nat.{◌-◌}
use Rattle.kernel_names.proofs.NameParts.{none_start, none_next, named_here, named_none}
use borrow.Author.Rules.{rules}
use Rattle.kernel_names.proofs.which.Goals as goal

pub loop-k-init : goal.loop-k-init
loop-k-init c = (search rules, search (none_start, rules))

pub returns-then-is_named-clause-value : goal.returns-then-is_named-clause-value
returns-then-is_named-clause-value c = search (named_here, rules)

pub loop-k-preserved : goal.loop-k-preserved
loop-k-preserved c = (search rules, search (none_next, rules))

pub returns-clause-value : goal.returns-clause-value
returns-clause-value c = search (named_none, rules)
