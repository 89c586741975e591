-- Adler-32, a byte at a time.
use Prim.Native.Nat.{ℕ, ◌+◌, ◌*◌, ◌%◌, ◌≤◌, ◌<◌}
use mathlib.Core.Path.{◌≡◌, sym, ◌∙◌}
use mathlib.Core.List.{List}
use lib.ListN.{length, get_or, drop, drop_of_length-le}
use Rattle.base.proofs.Lists.{drop_next}
use Rattle.packet_answers.specs.Sum.{base, sum_from}

module _ (s : List ℕ) (whole a b i : ℕ) (before : whole ≡ sum_from a b (drop i s)) where
  pub sum_turn : {byte : ℕ} → i < length s → byte ≡ get_or s i 0 → whole ≡ sum_from ((a + byte) % base) ((b + (a + byte) % base) % base) (drop (i + 1) s)
  unfolding sum_from
  sum_turn h e = before ∙ rw (drop_next s i 0 h, e)

  pub sum_done : length s ≤ i → b * 65_536 + a ≡ whole
  unfolding sum_from
  sum_done h = sym (before ∙ rw (drop_of_length-le s h))
