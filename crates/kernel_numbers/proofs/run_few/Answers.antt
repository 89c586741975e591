use mathlib.Core.Path.{refl}
use native.Mathlib.Omega.{arith}
use borrow.Author.Rules.{rules}
use Rattle.kernel_numbers.proofs.FewBytes.{few_digits, few_room, few_next}
use Rattle.kernel_numbers.proofs.Steps.{digit_at_most, digits_next, digits_stop, digits_end, run_stop, run_end}
use Rattle.kernel_numbers.proofs.run_few.Goals as goal

pub loop-at-preserved : goal.loop-at-preserved
loop-at-preserved c =
    let d = digit_at_most _ _ c.is_one.ensures c.if-is_one.true in (
      search rules,
      search rules,
      few_digits _ _ _ c.loop-at.invariant.2 (rw c.from.ensures d) _ refl,
      search (digits_next, rules),
      few_next _ _ _ c.loop-at-test.true c.is_one.ensures c.if-is_one.true _ _ _ c.requires.1 c.loop-at.invariant.2 d (omega (arith, c.from.ensures)) c.loop-at.invariant.4,
    )

pub overflow_mul-value : goal.overflow_mul-value
overflow_mul-value c = omega (arith, few_room c.loop-at.value _ 0 c.loop-at.invariant.2 (omega arith) _ c.loop-at-test.true c.requires.1)

pub overflow_add-value : goal.overflow_add-value
overflow_add-value c = omega (arith, few_room c.loop-at.value c.loop-at.at c.from.result c.loop-at.invariant.2 (rw c.from.ensures (digit_at_most _ _ c.is_one.ensures c.if-is_one.true)) _ c.loop-at-test.true c.requires.1)

pub returns-else-is_one-clause-at_value : goal.returns-else-is_one-clause-at_value
returns-else-is_one-clause-at_value c = search (digits_stop, rules)

pub returns-else-is_one-clause-head_value : goal.returns-else-is_one-clause-head_value
returns-else-is_one-clause-head_value c = search (run_stop, rules)

pub returns-after-loop-at-clause-at_value : goal.returns-after-loop-at-clause-at_value
returns-after-loop-at-clause-at_value c = search (digits_end, rules)

pub returns-after-loop-at-clause-head_value : goal.returns-after-loop-at-clause-head_value
returns-after-loop-at-clause-head_value c = search (run_end, rules)
