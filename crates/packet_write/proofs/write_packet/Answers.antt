use Rattle.std.proofs.lemmas.Result.{err_from_is_err_and}
use mathlib.Core.Path.{refl, ap}
use mathlib.Core.Bool.{not}
use Rattle.packet_write.proofs.Calls.{clock_bad_answer, clock_bad_leaves, ready_there, out_of_range_answer, out_of_range_leaves, octets_there, packet_answer, packet_bytes_lem}
use Rattle.packet_write.proofs.write_packet.Goals as goal

pub returns-then-not-is_writable-clause-result_value : goal.returns-then-not-is_writable-clause-result_value
returns-then-not-is_writable-clause-result_value c = out_of_range_answer _ _ _ _ _ _ _ _ c.accept_clock.ensures _ c.in_ok-b.was _ _ refl c.is_writable.ensures (ap not c.if-not-is_writable.true)

pub returns-then-not-is_writable-clause-buffer_after : goal.returns-then-not-is_writable-clause-buffer_after
returns-then-not-is_writable-clause-buffer_after c = out_of_range_leaves _ _ _ _ _ c.args.payload.now _ _ c.accept_clock.ensures _ c.in_ok-b.was _ _ refl c.is_writable.ensures _ (ap not c.if-not-is_writable.true)

pub write_counted-requires-clause-ready : goal.write_counted-requires-clause-ready
write_counted-requires-clause-ready c = ready_there _ _ c.args.header c.args.octets c.args.encoded c.args.payload.now 0 _ c.accept_clock.ensures _ c.in_ok-b.was

pub write_counted-requires-clause-octets_facts : goal.write_counted-requires-clause-octets_facts
write_counted-requires-clause-octets_facts c = octets_there _ _ _ _ c.args.encoded c.args.payload.now 0 _ c.accept_clock.ensures _ c.in_ok-b.was _ _ refl c.is_writable.ensures (ap not c.if-not-is_writable.false)

pub returns-clause-result_value : goal.returns-clause-result_value
returns-clause-result_value c = packet_answer _ _ _ _ _ _ _ _ c.accept_clock.ensures _ c.in_ok-b.was _ _ refl c.is_writable.ensures _ _ _ (ap not c.if-not-is_writable.false) c.write_counted.ensures

pub returns-clause-buffer_after : goal.returns-clause-buffer_after
returns-clause-buffer_after c = packet_bytes_lem _ _ _ _ _ _ _ _ c.accept_clock.ensures _ c.in_ok-b.was _ _ refl c.is_writable.ensures _ _ _ (ap not c.if-not-is_writable.false) c.write_counted.ensures

pub returns-in_err-b-clause-result_value : goal.returns-in_err-b-clause-result_value
returns-in_err-b-clause-result_value c = let p = err_from_is_err_and c.from_residual.result c.from_residual.ensures.1 in rw (p.1, p.2) (clock_bad_answer _ _ _ _ _ _ _ _ c.accept_clock.ensures _ c.in_err-b.was)

pub returns-in_err-b-clause-buffer_after : goal.returns-in_err-b-clause-buffer_after
returns-in_err-b-clause-buffer_after c = clock_bad_leaves _ _ _ _ _ c.args.payload.now _ _ c.accept_clock.ensures _ _ c.in_err-b.was
