-- Parts of a line, as the code finds them.
use Rattle.std.specs.Prelude.{ℕ, ◌≤◌, ◌≡◌, Bool, not, List, length}
use Rattle.kernel_rules.specs.Lines.{is_gap, after_gap, trim_to, part}
use Rattle.kernel_rules.specs.Assignments.{is_equals, name_in}
use Rattle.kernel_heads.specs.declared.Part.{Part}

-- any byte but `=`
abbrev pub before_equals : ℕ → Bool
before_equals b = not (is_equals b)

-- the first n bytes less the blanks and tabs around them
pub record Stripped (l : List ℕ) (n : ℕ) (r : Part) : Type 0 where
  pub bytes : part l r.start r.end ≡ part l (after_gap l 0) (trim_to is_gap l n)
  pub order : r.start ≤ r.end
  pub within : r.end ≤ length l

-- the name before the operator
pub record Named (l : List ℕ) (r : Part) : Type 0 where
  pub bytes : part l r.start r.end ≡ name_in l
  pub order : r.start ≤ r.end
  pub within : r.end ≤ length l
