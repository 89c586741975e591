use borrow.Author.Rules.{rules}
use Rattle.command_line.proofs.Lines.{count_line_lem, count_out}
use Rattle.command_line.proofs.put_count_line.Goals as goal

pub returns-in-Ok : goal.returns-in-Ok
returns-in-Ok c = search (count_line_lem, rules)

pub returns-in-Err : goal.returns-in-Err
returns-in-Err c = search (count_out, rules)
