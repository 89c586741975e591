use Rattle.accepted_calls.proofs.Calls.{print_above, print_decodable, print_few, print_below, print_printed}
use borrow.Author.Rules.{rules}
use Rattle.accepted_calls.proofs.stamp_print.Goals as goal

pub stamp_at-requires-clause-partition_lt_most_partitions : goal.stamp_at-requires-clause-partition_lt_most_partitions
stamp_at-requires-clause-partition_lt_most_partitions c = (search (print_few, rules), search (print_below, rules))

pub returns-then-basis-encoded : goal.returns-then-basis-encoded
returns-then-basis-encoded c = search (print_above, rules)

pub decode-requires : goal.decode-requires
decode-requires c = search (print_decodable, rules)

pub returns : goal.returns
returns c = search (print_printed, rules)
