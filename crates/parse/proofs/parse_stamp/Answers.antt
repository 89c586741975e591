use borrow.Author.Rules.{rules}
use borrow.Author.Tests.{not-true, not-false}
use Rattle.std.proofs.lemmas.Result.{err_from_is_err_and}
use Rattle.parse.proofs.Parse.{stamp_long, front_small, front_place, front_bad, stamp_named, named_refused, front_within, stamp_unnamed, unnamed_refused, stamp_other}
use Rattle.parse.proofs.parse_stamp.Goals as goal

pub returns-then-text-gt-LONGEST_TEXT : goal.returns-then-text-gt-LONGEST_TEXT
returns-then-text-gt-LONGEST_TEXT c = search (stamp_long, rules)

pub returns-then-not-pass : goal.returns-then-not-pass
returns-then-not-pass c = search (front_bad, not-true, rules)

pub overflow_add-at : goal.overflow_add-at
overflow_add-at c = search (front_small, rules)

pub count_from-requires : goal.count_from-requires
count_from-requires c = (search rules, search rules, search (front_place, rules))

pub returns-then-is_slash : goal.returns-then-is_slash
returns-then-is_slash c = search (stamp_named, c.in_ok-count_from.was, rules)

pub scan-whole-requires : goal.scan-whole-requires
scan-whole-requires c = (search rules, search (front_within, rules))

pub returns-then-text-stop : goal.returns-then-text-stop
returns-then-text-stop c = search (stamp_unnamed, c.in_ok-count.was, rules)

pub returns : goal.returns
returns c = search (stamp_other, rules)

pub returns-in_err-count_from : goal.returns-in_err-count_from
returns-in_err-count_from c = let p = err_from_is_err_and c.from_residual.result c.from_residual.ensures.1 in rw (p.1, p.2) (search (named_refused, not-false, c.in_err-count_from.was, rules))

pub returns-in_err-count : goal.returns-in_err-count
returns-in_err-count c = let p = err_from_is_err_and c.from_residual-in_err-count.result c.from_residual-in_err-count.ensures.1 in rw (p.1, p.2) (search (unnamed_refused, c.in_err-count.was, rules))
