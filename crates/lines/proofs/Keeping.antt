-- The loops of the code: where a line ends, and a copy as far as there is room.
use Prim.Native.Nat.{ℕ, ◌+◌, ◌-◌, ◌≤◌, ◌<◌, min}
use mathlib.Core.Path.{◌≡◌, sym, ◌∙◌}
use mathlib.Core.List.{List}
use lib.ListN.{length, get_or, take, drop, drop_of_length-le}
use lib.Seq.{paste, take-take, length-take-le}
use borrow.Rule.Slice.PartMut.{put_mid}
use Rattle.std.proofs.lemmas.Slice.{put_mid-paste}
use borrow.Author.Tests.{eq-eqb, ne_eqb}
use native.Mathlib.Omega.{arith}
use native.Mathlib.Numerals.{add-one}
use Rattle.base.proofs.Lists.{drop_next}
use Rattle.lines.specs.Lines.{line_end}
use Rattle.lines.specs.Steps.{line_in}

-- where the line under way at i ends
abbrev pub end_of : List ℕ → ℕ → ℕ
end_of s i = i + length (line_in (drop i s))

module _ (s : List ℕ) (at i : ℕ) (e : end_of s at ≡ end_of s i) where
  pub found_here : i < length s → get_or s i 0 ≡ line_end → i ≡ end_of s at
  unfolding line_in
  found_here h b = sym (e ∙ rw (drop_next s i 0 h, eq-eqb _ _ b) (omega arith))

  pub found_later : i < length s → (get_or s i 0 ≡ line_end → ⊥) → end_of s at ≡ end_of s (i + 1)
  unfolding line_in
  found_later h n = e ∙ rw (drop_next s i 0 h, ne_eqb _ _ n) (omega arith)

  pub found_last : length s ≤ i → i ≡ end_of s at
  unfolding line_in
  found_last h = sym (e ∙ rw (drop_of_length-le s h) (omega arith))

-- a copy of the first n bytes of `part` behind the first `at` elements of `d`
pub kept_part :
    (d part c : List ℕ) (at n : ℕ)
    → n ≡ min (length part) (length d - at)
    → c ≡ take n part
    → put_mid at (at + n - at) d c ≡ paste d at part (at + n - at)
kept_part d part c at n e i = put_mid-paste at (at + n - at) d c (take n part) n i (omega arith) (sym (length-take-le n part (omega arith))) ∙ rw (same, take-take n n part (omega arith))
  where
    same : at + n - at ≡ n
    same = omega arith
