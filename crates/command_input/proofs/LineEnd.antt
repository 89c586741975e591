-- One byte 13 at a line's end.
use Prim.Native.Nat.{ℕ, ◌-◌, ◌≤◌}
use mathlib.Core.Path.{◌≡◌, sym}
use mathlib.Core.List.{List}
use lib.ListN.{length, take, get_or, get_or-eq_default}
use lib.Seq.{take-length, take_all}
use native.Mathlib.Omega.{arith}
use borrow.Author.Tests.{eq-eqb, ne_eqb}
use Rattle.command_rules.specs.Input.{without_return}

module _ (s : List ℕ) where
  pub no_bytes : length s ≡ 0 → take 0 s ≡ without_return s
  unfolding without_return
  no_bytes h = let l : length s ≤ 0 = omega arith in sym (rw (h, get_or-eq_default s 0 l) (sym (take_all 0 s l)))

  pub return_dropped : get_or s (length s - 1) 0 ≡ 13 → take (length s - 1) s ≡ without_return s
  unfolding without_return
  return_dropped h = rw (eq-eqb (get_or s (length s - 1) 0) 13 h)

  pub no_return : (get_or s (length s - 1) 0 ≡ 13 → ⊥) → take (length s) s ≡ without_return s
  unfolding without_return
  no_return h = rw (ne_eqb (get_or s (length s - 1) 0) 13 h) (take-length s)
