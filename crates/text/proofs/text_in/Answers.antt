use borrow.Author.Rules.{rules}
use Rattle.text.proofs.Slots.{taken, some_taken, both_taken}
use Rattle.text.proofs.text_in.Goals as goal

pub parse_text-requires : goal.parse_text-requires
parse_text-requires c = (search (some_taken, rules), search (both_taken, rules))

pub slice_bounds-parse_text-end : goal.slice_bounds-parse_text-end
slice_bounds-parse_text-end c = search (taken, rules)

pub slice_bounds-parse_text-end-2 : goal.slice_bounds-parse_text-end-2
slice_bounds-parse_text-end-2 c = search (taken, rules)
