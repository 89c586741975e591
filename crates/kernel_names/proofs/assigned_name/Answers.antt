use Rattle.kernel_names.proofs.NameParts.{assigned_name}
use borrow.Author.Rules.{rules}
use Rattle.kernel_names.proofs.assigned_name.Goals as goal

pub returns-clause-value : goal.returns-clause-value
returns-clause-value c = search (assigned_name, rules)
