use borrow.Author.Rules.{rules}
use Rattle.command_answers.proofs.Answers.{print_fits, print_short, print-put, print-not-put}
use Rattle.command_answers.proofs.put_print.Goals as goal

pub put_text-requires-clause-n_le_longest_text : goal.put_text-requires-clause-n_le_longest_text
put_text-requires-clause-n_le_longest_text c = (search (print_short, rules), search (print_fits, rules))

pub returns-in-Ok : goal.returns-in-Ok
returns-in-Ok c = search (print-put, rules)

pub returns-in-Err : goal.returns-in-Err
returns-in-Err c = search (print-not-put, rules)
