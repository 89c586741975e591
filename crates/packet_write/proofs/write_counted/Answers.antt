use borrow.Author.Rules.{rules}
use Rattle.packet_write.proofs.Calls.{too_many_octets, beyond_total, count_decodable, coarse_too_large, buffer_short, packet_fits}
use Rattle.packet_bytes.proofs.Parts.{packet_end, packet_room}
use Rattle.packet_write.proofs.write_counted.Goals as goal

pub returns-then-before-payload : goal.returns-then-before-payload
returns-then-before-payload c = search (too_many_octets, rules)

pub returns-then-total-encoded : goal.returns-then-total-encoded
returns-then-total-encoded c = search (beyond_total, rules)

pub decode-place-requires : goal.decode-place-requires
decode-place-requires c = search (count_decodable, rules)

pub returns-then-above-ne0 : goal.returns-then-above-ne0
returns-then-above-ne0 c = search (coarse_too_large, rules)

pub returns-then-buffer-end : goal.returns-then-buffer-end
returns-then-buffer-end c = search (buffer_short, rules)

pub write_all-requires-clause-end_value : goal.write_all-requires-clause-end_value
write_all-requires-clause-end_value c = search (packet_end, rules)

pub write_all-requires-clause-room : goal.write_all-requires-clause-room
write_all-requires-clause-room c = search (packet_room, rules)

pub returns : goal.returns
returns c = search (packet_fits, rules)
