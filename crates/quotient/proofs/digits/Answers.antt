use Rattle.std.proofs.Common.{arith, rules}
use Rattle.quotient.proofs.Turns.{first_fits, raised_fits, first_raised, first_turn, digit_lt, next_word_fits, next_turn, last_turn}
use Rattle.quotient.proofs.digits.Goals as goal

pub loop-k-preserved : goal.loop-k-preserved
loop-k-preserved c = (
  search rules,
  next_turn _ _ _ _ _ _ _ _
      c.loop-k.invariant.1
      (digit_lt _ _ _ c.bit-next.ensures)
      c.turn-by.ensures.0
      c.bit-next.ensures
      (omega arith),
)

pub overflow_add-y-2 : goal.overflow_add-y-2
overflow_add-y-2 c = search (first_fits, rules)

pub overflow_add-y-3 : goal.overflow_add-y-3
overflow_add-y-3 c = search (raised_fits, rules)

pub loop-k-init : goal.loop-k-init
loop-k-init c = (search (first_raised, rules), search (first_turn, rules))

pub turn-by-requires : goal.turn-by-requires
turn-by-requires c = search (digit_lt, rules)

pub overflow_add-w : goal.overflow_add-w
overflow_add-w c = search (next_word_fits, digit_lt, rules)

pub returns : goal.returns
returns c = search (last_turn, rules)
