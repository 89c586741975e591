use borrow.Author.Rules.{rules}
use Rattle.command_lines.proofs.Pieces.{and_well, not_well}
use Rattle.command_lines.proofs.and_well.Goals as goal

pub returns-then-well : goal.returns-then-well
returns-then-well c = search (and_well, rules)

pub returns : goal.returns
returns c = search (not_well, rules)
