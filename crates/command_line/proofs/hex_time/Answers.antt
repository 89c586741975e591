use borrow.Author.Rules.{rules}
use Rattle.command_line.proofs.Lines.{hex_fits, hex_timed, hex_out}
use Rattle.command_line.proofs.hex_time.Goals as goal

pub front_time-requires-clause-n_in_bounds : goal.front_time-requires-clause-n_in_bounds
front_time-requires-clause-n_in_bounds c = search (hex_fits, rules)

pub returns : goal.returns
returns c = hex_timed _ _ c.read_hex.result c.read_hex.new.message c.read_hex.ensures.message_after c.in_ok-n.n _ c.in_ok-n.was c.front_time.ensures

pub returns-in_err-n : goal.returns-in_err-n
returns-in_err-n c = search (hex_out, rules)
