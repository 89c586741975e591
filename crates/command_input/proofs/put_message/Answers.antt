use borrow.Author.Rules.{rules}
use Rattle.command_input.proofs.Hex.{digit_at, low_digit, low_digit_at, message_next, message_done}
use Rattle.command_input.proofs.put_message.Goals as goal

pub loop-at-init : goal.loop-at-init
loop-at-init c = (search rules, search rules, search rules, search rules)

pub byte_of-requires : goal.byte_of-requires
byte_of-requires c = (search (digit_at, rules), search (low_digit_at, rules))

pub loop-at-preserved : goal.loop-at-preserved
loop-at-preserved c = (search rules, search rules, search rules, search (message_next, rules))

pub returns-clause-message_after : goal.returns-clause-message_after
returns-clause-message_after c = search (message_done, rules)

pub bounds-text-at-in-loop-at : goal.bounds-text-at-in-loop-at
bounds-text-at-in-loop-at c = search (low_digit, rules)
