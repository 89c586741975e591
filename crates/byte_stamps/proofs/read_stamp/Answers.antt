use Rattle.std.proofs.lemmas.Result.{err_from_is_err_and}
use borrow.Author.Rules.{rules}
use Rattle.text.proofs.Calls.{some_fields, few_fields, stamp_layout, stamp_listed, stamp_refused, stamp_accepted}
use Rattle.text.proofs.Encode.{stamp_encoded, parse_refused}
use Rattle.byte_stamps.proofs.read_stamp.Goals as goal

pub returns-in_err-accept_stamps : goal.returns-in_err-accept_stamps
returns-in_err-accept_stamps c = let p = err_from_is_err_and c.from_residual.result c.from_residual.ensures.1 in rw (p.1, p.2) (stamp_refused _ _ c.measure.ensures _ _ c.accept_stamps.ensures _ _ c.in_err-accept_stamps.was)

pub parsed_in-requires : goal.parsed_in-requires
parsed_in-requires c =
    let f = stamp_layout _ _ c.measure.ensures _ _ c.accept_stamps.ensures _ c.in_ok-accept_stamps.was in (search (some_fields, f, rules), search (few_fields, f, rules), search (few_fields, f, rules))

pub encode_parsed-requires : goal.encode_parsed-requires
encode_parsed-requires c = stamp_listed _ _ c.measure.ensures _ _ c.accept_stamps.ensures _ c.in_ok-accept_stamps.was

pub returns-in_err-stamp : goal.returns-in_err-stamp
returns-in_err-stamp c =
    let tables = c.in_ok-accept_stamps.was in
    let listed = stamp_listed _ _ c.measure.ensures _ _ c.accept_stamps.ensures _ tables in
    let p = err_from_is_err_and c.from_residual-in_err-stamp.result c.from_residual-in_err-stamp.ensures.1 in
    rw (p.1, p.2) (stamp_accepted _ _ c.measure.ensures _ _ c.accept_stamps.ensures _ tables _ _ (parse_refused _ _ _ listed c.parsed_in.ensures _ c.in_err-stamp.was))

pub returns : goal.returns
returns c =
    let tables = c.in_ok-accept_stamps.was in
    let listed = stamp_listed _ _ c.measure.ensures _ _ c.accept_stamps.ensures _ tables in
    stamp_accepted _ _ c.measure.ensures _ _ c.accept_stamps.ensures _ tables _ _ (stamp_encoded _ _ _ listed c.parsed_in.ensures _ _ c.in_ok-stamp.was c.encode_parsed.ensures)
