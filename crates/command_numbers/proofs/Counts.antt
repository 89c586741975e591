-- What each way out of reading a count says.
use Prim.Native.Nat.{ℕ, ◌+◌, ◌≤◌, ◌<◌, min}
use mathlib.Core.Path.{◌≡◌}
use mathlib.Core.List.{List}
use lib.ListN.{length, drop}
use native.Mathlib.Omega.{arith}
use borrow.Author.Tests.{le-leb, lt-leb}
use Rattle.rules.specs.Limits.{longest_text}
use Rattle.rules.specs.Text.{is_digit}
use Rattle.rules.specs.Answer.{answer, refused, refuse, placed, unless, unless_at, Numbered}
use Rattle.command_rules.specs.Input.{spelled, read_count}
use Rattle.command_input.specs.Runs.{run_length}
use Rattle.command_input.proofs.Runs.{other_found, other_missing}
use Rattle.command_numbers.specs.Given.{number_cap, near_count, capped_count}

module _ (s : List ℕ) where
  pub count_long : longest_text < length s → refuse 4 ≡ capped_count (read_count s)
  unfolding read_count unless capped_count
  count_long h = rw (lt-leb (length s) longest_text h)

  module _ (short : length s ≤ longest_text) (e : ℕ) (h : e ≡ 0 + run_length is_digit (drop 0 s)) where
    pub count_other : (k : Numbered) → e < length s → k ≡ placed 5 e → refused k ≡ capped_count (read_count s)
    unfolding read_count unless unless_at capped_count
    count_other k l f = rw (le-leb (length s) longest_text short, other_found is_digit s 0 e h l, f)

    module _ (l : length s ≤ e) where
      pub count_none : length s ≡ 0 → refuse 6 ≡ capped_count (read_count s)
      unfolding read_count unless unless_at capped_count
      count_none z = rw (le-leb (length s) longest_text short, other_missing is_digit s 0 e h l, z)

      pub count_is : (n : ℕ) → (length s ≡ 0 → ⊥) → n ≡ min (spelled s) number_cap → answer n ≡ capped_count (read_count s)
      unfolding read_count unless unless_at capped_count near_count
      count_is n z d = rw (le-leb (length s) longest_text short, other_missing is_digit s 0 e h l, le-leb 1 (length s) (omega arith), d)
