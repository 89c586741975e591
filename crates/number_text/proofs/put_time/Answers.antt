use borrow.Author.Rules.{rules}
use Rattle.number_text.proofs.Bytes.{minus_written, plus_written}
use Rattle.number_text.proofs.put_time.Goals as goal

pub returns-then-time-lt0-clause-written : goal.returns-then-time-lt0-clause-written
returns-then-time-lt0-clause-written c = minus_written c.args.time c.ranges.time _ _ _ _ c.unsigned_abs-magnitude.ensures.value _ c.if-time-lt0.true (search rules) c.put_byte-place.ensures.written c.put_number.ensures.written

pub returns-clause-written : goal.returns-clause-written
returns-clause-written c = plus_written c.args.time c.ranges.time _ _ _ _ c.unsigned_abs-magnitude.ensures.value c.if-time-lt0.false c.put_number-2.ensures.written
