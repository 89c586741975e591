use borrow.Author.Rules.{rules}
use Rattle.byte_tables.proofs.Given.{moduli_there, offsets_there, head_out, first_there, offsets_out, measured_is}
use Rattle.layouts.proofs.Measuring.{some_fields}
use Rattle.byte_tables.proofs.layout.measure_of.Goals as goal

pub returns-then-not-head_ok : goal.returns-then-not-head_ok
returns-then-not-head_ok c = search (head_out, rules)

pub all_at_most-requires : goal.all_at_most-requires
all_at_most-requires c = search (offsets_there, rules)

pub returns-then-not-all_at_most : goal.returns-then-not-all_at_most
returns-then-not-all_at_most c = search (offsets_out, rules)

pub product_capped-msf-requires : goal.product_capped-msf-requires
product_capped-msf-requires c = (search (some_fields, rules), search (moduli_there, rules), search rules)

pub number_at-requires : goal.number_at-requires
number_at-requires c = search (first_there, rules)

pub returns : goal.returns
returns c = search (measured_is, rules)
