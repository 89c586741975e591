use Rattle.std.proofs.lemmas.Result.{err_from_is_err_and}
use Rattle.packet_read.proofs.Calls.{held_by, held_by_none}
use Rattle.packet_read.proofs.count_packet.Goals as goal

pub returns-in_err-encoded : goal.returns-in_err-encoded
returns-in_err-encoded c =
    let p = err_from_is_err_and c.from_residual.result c.from_residual.ensures.1 in
    rw (p.1, p.2) (held_by_none _ c.requires.held _ _ _ c.count_time-count.ensures _ c.encode_first.ensures _ c.in_err-encoded.was)

pub returns : goal.returns
returns c = held_by _ c.requires.held _ _ _ c.count_time-count.ensures _ c.encode_first.ensures _ c.in_ok-encoded.was _ c.header_of.ensures _ c.requires.time_there _ c.time_end.ensures
