use Rattle.kernel_assignments.proofs.Values.{assigned_none, assigned_unnamed, assigned_value}
use borrow.Author.Rules.{rules}
use Rattle.kernel_assignments.proofs.assigned_stage.Goals as goal

pub returns-then-l-equals : goal.returns-then-l-equals
returns-then-l-equals c = search (assigned_none, rules)

pub returns-then-not-is_name : goal.returns-then-not-is_name
returns-then-not-is_name c = search (assigned_unnamed, rules)

pub returns : goal.returns
returns c = search (assigned_value, rules)
