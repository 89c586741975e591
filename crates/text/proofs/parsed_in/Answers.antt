use borrow.Author.Rules.{rules}
use Rattle.text.proofs.Slots.{taken, some_taken, both_taken}
use Rattle.text.proofs.parsed_in.Goals as goal

pub slice_bounds-parse_stamp-end : goal.slice_bounds-parse_stamp-end
slice_bounds-parse_stamp-end c = search (taken, rules)

pub slice_bounds-parse_stamp-end-2 : goal.slice_bounds-parse_stamp-end-2
slice_bounds-parse_stamp-end-2 c = search (taken, rules)

pub parse_stamp-requires : goal.parse_stamp-requires
parse_stamp-requires c = (search (some_taken, rules), search (both_taken, rules))
