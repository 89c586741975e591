use borrow.Author.Rules.{rules}
use Rattle.command_input.proofs.Hex.{hex_next, hex_stop, hex_past}
use Rattle.command_input.proofs.hex_end.Goals as goal

pub loop-at-preserved : goal.loop-at-preserved
loop-at-preserved c = (search rules, search (hex_next, rules))

pub returns-then-not-is_hex : goal.returns-then-not-is_hex
returns-then-not-is_hex c = search (hex_stop, rules)

pub returns : goal.returns
returns c = search (hex_past, rules)
