use borrow.Author.Rules.{rules}
use Rattle.command_line.proofs.Lines.{stamp_line_lem, stamp_out}
use Rattle.command_line.proofs.put_stamp_line.Goals as goal

pub returns-in-Ok : goal.returns-in-Ok
returns-in-Ok c = search (stamp_line_lem, rules)

pub returns-in-Err : goal.returns-in-Err
returns-in-Err c = search (stamp_out, rules)
