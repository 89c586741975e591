use mathlib.Core.Path.{sym, ◌∙◌}
use borrow.Author.Rules.{rules}
use Rattle.kernel_heading.proofs.Judging.{asks_id, asks_type, asks_system, asks_fields, asks_delimiter, bad_id, bad_type, bad_system, bad_fields, bad_delimiter, heading_none, heading_some}
use Rattle.kernel_heading.proofs.read_heading.Goals as goal

pub read_single-requires : goal.read_single-requires
read_single-requires c = search (asks_id, rules)

pub read_single-requires-2 : goal.read_single-requires-2
read_single-requires-2 c = search (asks_type, rules)

pub read_single-requires-3 : goal.read_single-requires-3
read_single-requires-3 c = search (asks_system, rules)

pub read_single-requires-4 : goal.read_single-requires-4
read_single-requires-4 c = search (asks_fields, rules)

pub read_single-requires-5 : goal.read_single-requires-5
read_single-requires-5 c = search (asks_delimiter, rules)

pub returns-in_err-_id : goal.returns-in_err-_id
returns-in_err-_id c = rw c.from_residual.ensures (bad_id _ _ c.in_err-_id.was c.read_single.ensures)

pub returns-in_err-kind : goal.returns-in_err-kind
returns-in_err-kind c = rw c.from_residual-in_err-kind.ensures (bad_type _ _ c.in_err-kind.was c.read_single-2.ensures)

pub returns-in_err-system : goal.returns-in_err-system
returns-in_err-system c = rw c.from_residual-in_err-system.ensures (bad_system _ _ c.in_err-system.was c.read_single-3.ensures)

pub returns-in_err-n : goal.returns-in_err-n
returns-in_err-n c = rw c.from_residual-in_err-n.ensures (bad_fields _ _ c.in_err-n.was c.read_single-4.ensures)

pub returns-in_err-delimiter : goal.returns-in_err-delimiter
returns-in_err-delimiter c = rw c.from_residual-in_err-delimiter.ensures (bad_delimiter _ _ c.in_err-delimiter.was c.read_single-5.ensures)

pub returns-then-is_typed : goal.returns-then-is_typed
returns-then-is_typed c =
    heading_some _ _ _ _ _ _
    (sym c.read_single.ensures ∙ c.in_ok-_id.was)
    (sym c.read_single-2.ensures ∙ c.in_ok-kind.was)
    (sym c.read_single-3.ensures ∙ c.in_ok-system.was)
    (sym c.read_single-4.ensures ∙ c.in_ok-n.was)
    (sym c.read_single-5.ensures ∙ c.in_ok-delimiter.was)
    _
    c.is_typed.ensures
    _ _ _ _ _
    c.if-is_typed.true
    c.is_unsigned.ensures
    c.is_unsigned-then-is_typed.ensures
    c.unsigned_of.ensures
    c.unsigned_of-then-is_typed.ensures
    c.system_of.ensures

pub returns-else-is_typed : goal.returns-else-is_typed
returns-else-is_typed c =
    heading_none _ _ _ _ _ _
    (sym c.read_single.ensures ∙ c.in_ok-_id.was)
    (sym c.read_single-2.ensures ∙ c.in_ok-kind.was)
    (sym c.read_single-3.ensures ∙ c.in_ok-system.was)
    (sym c.read_single-4.ensures ∙ c.in_ok-n.was)
    (sym c.read_single-5.ensures ∙ c.in_ok-delimiter.was)
    _
    c.is_typed.ensures
    c.if-is_typed.false
