-- The longest packet is written, and one octet more of data is refused.
use Rattle.rules.specs.Computing.{computing}
use Rattle.packet_rules.specs.Octets.{octets}
use Rattle.packet_rules.specs.Write.{writable, packet_bytes, packet_of, write_packet}
use Rattle.packet_rules.specs.Examples.{zeros, time_octets, clock, up_to}
use Rattle.packet_outcomes.specs.RoundTrip.{LongestWritten}

pub longest_written : LongestWritten
unfolding computing octets writable packet_bytes packet_of write_packet clock up_to
longest_written = record { written = λ d h. (packet_bytes zeros (time_octets 2 1) 5 d, rw h, rw h); too_long = λ d h room. rw h }
