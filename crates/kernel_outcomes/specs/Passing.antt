-- What may stand between the lines of a kernel text and change nothing.
use Rattle.std.specs.Prelude.{ℕ, ◌<◌, ◌≡◌, Bool, true, false, not, ◌&&◌, List, [], ◌∷◌, ◌++◌, eqb}
use Rattle.base.specs.Scans.{all}
use Rattle.lines.specs.Lines.{line_end}
use Rattle.kernel_rules.specs.declared.Stage.{Stage}
use Rattle.kernel_rules.specs.declared.Stage.TheVariants.{Comment, Data, Opened, Numbers, Strings, Forbidden}
use Rattle.kernel_rules.specs.Lines.{is_marker, begin_data}
use Rattle.kernel_rules.specs.Assignments.{after_line, after_lines}
use Rattle.kernel_rules.specs.Names.{given, names}

-- Lines that leave the stage p as it is and give none of the ten names: whole blocks, comments, empty lines, assignments of other names.
pub record Passed (digits : List ℕ) (p : Stage) (ls : List (List ℕ)) : Type 0 where
  pub stays : after_lines p ls ≡ p
  pub gives_none : (k : ℕ) → k < names → given digits k p ls ≡ []

-- no line is \begindata
unfoldable pub no_data : List (List ℕ) → Bool
no_data [] = true
no_data (l ∷ ls) = not (is_marker begin_data l) && no_data ls

-- a list is open
unfoldable pub in_list : Stage → Bool
in_list Opened = true
in_list Numbers = true
in_list Strings = true
in_list Comment = false
in_list Data = false
in_list Forbidden = false

-- a list is open before each of these lines
unfoldable pub within : Stage → List (List ℕ) → Bool
within p [] = true
within p (l ∷ ls) = in_list p && within (after_line p l) ls

-- the text of these lines, each ended by a byte 10
unfoldable pub ended : List (List ℕ) → List ℕ
ended [] = []
ended (l ∷ ls) = l ++ (line_end ∷ ended ls)

-- no byte 10 in them
unfoldable pub is_line : List ℕ → Bool
is_line l = all (λ b. not (eqb b line_end)) l

unfoldable pub are_lines : List (List ℕ) → Bool
are_lines [] = true
are_lines (l ∷ ls) = is_line l && are_lines ls
