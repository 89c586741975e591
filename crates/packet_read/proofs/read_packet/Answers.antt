use Rattle.std.proofs.lemmas.Result.{err_from_is_err_and}
use Rattle.packet_read.proofs.Forms.{form_time}
use Rattle.packet_read.proofs.Calls.{read_form_refused, read_clock_refused, clock_held, modulus_small, read_counted}
use Rattle.std.proofs.Common.{refl}
use Rattle.packet_read.proofs.read_packet.Goals as goal

pub returns-in_err-octets : goal.returns-in_err-octets
returns-in_err-octets c = let p = err_from_is_err_and c.from_residual.result c.from_residual.ensures.1 in rw (p.1, p.2) (read_form_refused _ _ _ _ c.check_packet.ensures _ c.in_err-octets.was)

pub returns-in_err-accept_clock : goal.returns-in_err-accept_clock
returns-in_err-accept_clock c =
    let p = err_from_is_err_and c.from_residual-in_err-accept_clock.result c.from_residual-in_err-accept_clock.ensures.1 in
    rw (p.1, p.2) (read_clock_refused _ _ _ _ c.check_packet.ensures _ c.in_ok-octets.was _ c.accept_clock.ensures _ c.in_err-accept_clock.was)

pub count_packet-requires-clause-held : goal.count_packet-requires-clause-held
count_packet-requires-clause-held c = clock_held _ _ _ _ c.check_packet.ensures _ c.in_ok-octets.was _ c.accept_clock.ensures _ c.in_ok-accept_clock.was

pub count_packet-requires-clause-modulus_le_largest_msf : goal.count_packet-requires-clause-modulus_le_largest_msf
count_packet-requires-clause-modulus_le_largest_msf c = modulus_small _ _ _ _ c.check_packet.ensures _ c.in_ok-octets.was _ c.accept_clock.ensures _ c.in_ok-accept_clock.was

pub count_packet-requires-clause-time_there : goal.count_packet-requires-clause-time_there
count_packet-requires-clause-time_there c = form_time _ _ c.check_packet.ensures _ c.in_ok-octets.was

pub returns : goal.returns
returns c = read_counted _ _ _ _ c.check_packet.ensures _ c.in_ok-octets.was _ c.accept_clock.ensures _ c.in_ok-accept_clock.was _ refl _ c.count_packet.ensures
