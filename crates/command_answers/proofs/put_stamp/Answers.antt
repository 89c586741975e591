use borrow.Author.Rules.{rules}
use Rattle.command_answers.proofs.Answers.{print_fits, print_short, stamp_printed, stamp-unprinted}
use Rattle.command_answers.proofs.put_stamp.Goals as goal

pub put_fields-requires-clause-n_le_longest_text : goal.put_fields-requires-clause-n_le_longest_text
put_fields-requires-clause-n_le_longest_text c = (search (print_short, rules), search (print_fits, rules))

pub returns-in-Ok : goal.returns-in-Ok
returns-in-Ok c = search (stamp_printed, rules)

pub returns-in-Err : goal.returns-in-Err
returns-in-Err c = search (stamp-unprinted, rules)
