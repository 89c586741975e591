use borrow.Author.Rules.{rules}
use Rattle.command_text.proofs.Texts.{minus_put, plus_put}
use Rattle.command_text.proofs.put_time_by.Goals as goal

pub returns-then-time-lt0-clause-written : goal.returns-then-time-lt0-clause-written
returns-then-time-lt0-clause-written c = minus_put c.args.seconds c.args.time c.ranges.time _ _ _ _ c.unsigned_abs-magnitude.ensures.value _ c.if-time-lt0.true (search rules) c.put_byte-place.ensures.written c.put_amount.ensures.written

pub returns-clause-written : goal.returns-clause-written
returns-clause-written c = plus_put c.args.seconds c.args.time c.ranges.time _ _ _ _ c.unsigned_abs-magnitude.ensures.value c.if-time-lt0.false c.put_amount-2.ensures.written
