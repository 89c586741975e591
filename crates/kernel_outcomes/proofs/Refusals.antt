-- Reading a kernel gives no refusal outside its set, and a place with 2 and 3 alone.
use Prim.Native.Nat.{ℕ}
use mathlib.Core.Path.{refl}
use mathlib.Core.List.{List, [], ◌∷◌}
use Rattle.base.specs.Scans.{among}
use Rattle.kernel_rules.specs.Tables.{Tables, tables_accepted}
use Rattle.kernel_rules.specs.Kernel.{lines_read, read_kernel}
use Rattle.outcomes.specs.Refusals.{has_place}
use Rattle.outcomes.proofs.Ladder.{answers, last_rung, rung, then, accepted_only}
use Rattle.kernel_outcomes.specs.Refusals.{kernel_refusals, OnlyThese, KernelRefusals}

tables_only : (t : Tables) → OnlyThese (tables_accepted t)
unfolding tables_accepted kernel_refusals has_place among
tables_only t = rung 1 _ refl refl (accepted_only refl refl refl _ _ _ (answers t))

lines_only : (digits : List ℕ) (ls : List (List ℕ)) → OnlyThese (lines_read digits ls)
unfolding lines_read kernel_refusals has_place among
lines_only digits [] = last_rung 18 refl refl
lines_only digits (l ∷ ls) = rung 18 _ refl refl (rung 19 _ refl refl (rung 20 _ refl refl (tables_only _)))

pub kernel_refusals_lem : KernelRefusals
unfolding read_kernel kernel_refusals has_place among
kernel_refusals_lem text clock lent = then _ (lines_only _ _) (λ t _. rung 16 _ refl refl (answers t))
