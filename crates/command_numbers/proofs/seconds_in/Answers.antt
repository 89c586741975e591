use mathlib.Core.Path.{ap}
use mathlib.Core.Bool.{not}
use borrow.Author.Rules.{rules}
use Rattle.command_numbers.proofs.Times.{seconds_long, seconds_other, seconds_none, seconds_inexact, seconds_time}
use Rattle.command_numbers.proofs.seconds_in.Goals as goal

pub returns-then-not-all_zeros : goal.returns-then-not-all_zeros
returns-then-not-all_zeros c = search (seconds_inexact, rules)

pub returns : goal.returns
returns c = seconds_time _ _ c.sign_length-first.result c.digits_end-point.result c.point_end-decimal.result c.digits_end-at.result c.all_zeros.result c.time_at.ensures c.sign_length-first.ensures.value c.digits_end-point.ensures.value c.point_end-decimal.ensures.value
    c.digits_end-at.ensures.value c.if-at-text.false c.all_zeros.ensures (ap not c.if-not-all_zeros.false) c.if-text-gt-LONGEST_TEXT.false c.digits_end-point.ensures.lower_bound.1 c.if-point-first.false

pub returns-then-text-gt-LONGEST_TEXT : goal.returns-then-text-gt-LONGEST_TEXT
returns-then-text-gt-LONGEST_TEXT c = search (seconds_long, rules)

pub returns-then-at-text : goal.returns-then-at-text
returns-then-at-text c = search (seconds_other, rules)

pub returns-then-point-first : goal.returns-then-point-first
returns-then-point-first c = search (seconds_none, rules)
