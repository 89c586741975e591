use borrow.Author.Rules.{rules}
use Rattle.command_input.proofs.Hex.{hex_long, hex_other, hex_odd, hex_text, hex_even}
use Rattle.command_input.proofs.read_hex.Goals as goal

pub returns-then-n-gt-LONGEST_HEX-clause-message_after : goal.returns-then-n-gt-LONGEST_HEX-clause-message_after
returns-then-n-gt-LONGEST_HEX-clause-message_after c = search (hex_long, rules)

pub returns-then-at-n-clause-message_after : goal.returns-then-at-n-clause-message_after
returns-then-at-n-clause-message_after c = search (hex_other, rules)

pub returns-then-n-ne0-clause-message_after : goal.returns-then-n-ne0-clause-message_after
returns-then-n-ne0-clause-message_after c = search (hex_odd, rules)

pub put_message-requires-clause-hex_text : goal.put_message-requires-clause-hex_text
put_message-requires-clause-hex_text c = search (hex_text, rules)

pub returns-clause-message_after : goal.returns-clause-message_after
returns-clause-message_after c = search (hex_even, rules)
