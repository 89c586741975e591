-- What stands before the value of an assignment: the name and the operator, as the code finds them.
use Prim.Native.Nat.{ℕ, ◌+◌, ◌-◌, ◌≤◌, ◌<◌, min}
use mathlib.Core.Path.{◌≡◌, sym, ◌∙◌}
use mathlib.Core.Bool.{Bool, true, false}
use mathlib.Core.List.{List}
use lib.Dec.{ltb}
use lib.ListN.{length, drop, drop_of_length-le}
use borrow.Author.Tests.{ltb-true}
use native.Mathlib.Omega.{arith}
use Rattle.base.proofs.Tests.{and_first}
use Rattle.kernel_rules.specs.Lines.{is_gap, after_gap, trim_to}
use Rattle.kernel_rules.specs.Assignments.{equals_at, is_plus, name_end, name_in, value_at}
use Rattle.kernel_heads.specs.declared.Part.{Part}
use Rattle.kernel_heads.specs.Parts.{before_equals, Stripped, Named}
use Rattle.kernel_lines.specs.Kinds.{after_span}

-- the first `=`
pub equals_found : (l : List ℕ) → after_span before_equals l 0 ≡ equals_at l
unfolding equals_at
equals_found l = omega arith

-- a `+` before it
module _ (l : List ℕ) (q : ℕ) (e : q ≡ equals_at l) where
  pub plus_some : (t : Bool) → t ≡ is_plus l → t ≡ true → 1 ≤ q
  unfolding is_plus
  plus_some t p y = rw e (ltb-true 0 (equals_at l) (and_first (ltb 0 (equals_at l)) _ (sym p ∙ y)))

-- the part without its blanks and tabs
module _ (l : List ℕ) (n a b : ℕ) (ea : a ≡ after_gap l 0) (eb : b ≡ trim_to is_gap l n) where
  pub stripped_empty : b ≤ a → a ≤ length l → Stripped l n (record { start = a; end = a })
  stripped_empty h k = record { bytes = rw (← ea, ← eb, none, nothing); order = omega arith; within = k }
    where
      none : a - a ≡ 0
      none = omega arith

      nothing : b - a ≡ 0
      nothing = omega arith

  pub stripped_part : a < b → b ≤ n → n ≤ length l → Stripped l n (record { start = a; end = b })
  stripped_part h k m = record { bytes = rw (← ea, ← eb); order = omega arith; within = omega arith }

module _ (l : List ℕ) (q : ℕ) (t : Bool) (r : Part) (e : q ≡ equals_at l) (p : t ≡ is_plus l) where
  pub named_plus : t ≡ true → Stripped l (q - 1) r → Named l r
  unfolding name_in name_end
  named_plus y s = record { bytes = s.bytes ∙ rw (← p, y, ← e); order = s.order; within = s.within }

  pub named_equals : t ≡ false → Stripped l q r → Named l r
  unfolding name_in name_end
  named_equals y s = record { bytes = s.bytes ∙ rw (← p, y, ← e, none); order = s.order; within = s.within }
    where
      none : q - 0 ≡ q
      none = omega arith

-- where the value begins
module _ (l : List ℕ) (q : ℕ) (e : q ≡ equals_at l) where
  pub value_missing : length l ≤ q → length l ≡ min (value_at l) (length l)
  unfolding value_at after_gap
  value_missing h = omega arith

  pub value_missing_drop : length l ≤ q → drop (length l) l ≡ drop (value_at l) l
  unfolding value_at after_gap
  value_missing_drop h = rw (drop_of_length-le l {i = length l} (omega arith), drop_of_length-le l {i = value_at l} (omega arith))

  pub value_found : (r : ℕ) → r ≡ after_gap l (q + 1) → r ≤ length l → r ≡ min (value_at l) (length l)
  unfolding value_at
  value_found r x h = rw (← e, ← x) (omega arith)

  pub value_found_drop : (r : ℕ) → r ≡ after_gap l (q + 1) → drop r l ≡ drop (value_at l) l
  unfolding value_at
  value_found_drop r x = rw (← e, ← x)
