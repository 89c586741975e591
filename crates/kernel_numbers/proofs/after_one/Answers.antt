use Rattle.kernel_numbers.proofs.Steps.{one_yes, one_no, one_end}
use Rattle.kernel_numbers.proofs.after_one.Goals.{else-at-w-via-then-at-w+else-is_one, else-at-w-via-else-at-w}
use Rattle.kernel_numbers.proofs.after_one.Goals as goal

pub returns-then-is_one-clause-value : goal.returns-then-is_one-clause-value
returns-then-is_one-clause-value g c = one_yes _ _ _ _ c.is_one.ensures c.if-is_one.true

pub returns-else-at-w-clause-value : goal.returns-else-at-w-clause-value
returns-else-at-w-clause-value g c =
    elim c.else-at-w.branch [
      | else-at-w-via-then-at-w+else-is_one w ↦ one_no _ _ _ _ w.is_one.ensures w.if-is_one.false
      | else-at-w-via-else-at-w w ↦ one_end _ _ _ c.requires.none_behind w.if-at-w.false
    ]
