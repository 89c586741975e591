use borrow.Author.Rules.{rules}
use Rattle.packet_read.proofs.Forms.{under_seven, another_length, bad_form, time_past, time_within}
use Rattle.packet_read.proofs.check_packet.Goals.{then-length-lt-TIME_START-via-then-length-lt-TIME_START, then-length-lt-TIME_START-via-else-length-lt-TIME_START+then-length-word_at}
use Rattle.packet_read.proofs.check_packet.Goals as goal

pub returns-then-length-lt-TIME_START : goal.returns-then-length-lt-TIME_START
returns-then-length-lt-TIME_START c = elim c.then-length-lt-TIME_START.branch [
  | then-length-lt-TIME_START-via-then-length-lt-TIME_START w ↦ search (under_seven, rules)
  | then-length-lt-TIME_START-via-else-length-lt-TIME_START+then-length-word_at w ↦ search (another_length, rules)
]

pub returns-then-not-form_ok : goal.returns-then-not-form_ok
returns-then-not-form_ok c = search (bad_form, rules)

pub returns-then-length-time_end : goal.returns-then-length-time_end
returns-then-length-time_end c = search (time_past, rules)

pub returns : goal.returns
returns c = search (time_within, rules)
