-- Where the ten names are assigned: an assignment by the place of its line in the text.
use Rattle.std.specs.Prelude.{ℕ, ◌+◌, ◌≤◌, ◌<◌, ◌≡◌, Bool, true, false, ◌&&◌, cond, List, [], ◌∷◌, eqb, leb, length, drop, get_or, Option, Some, None}
use Rattle.base.specs.Scans.{all_below}
use Rattle.kernel_rules.specs.declared.Stage.TheVariants.{Comment}
use Rattle.kernel_rules.specs.Lines.{kernel_lines, part}
use Rattle.kernel_rules.specs.Assignments.{after_lines, ends_well}
use Rattle.kernel_rules.specs.Names.{Assignment, assignment, given, names}
use Rattle.kernel_lines.specs.Places.{line_at}

-- the form is kept to the end, and no name is assigned twice
unfoldable pub form_ok : List ℕ → List (List ℕ) → Bool
form_ok digits ls = ends_well (after_lines Comment ls) && all_below (λ k. leb (length (given digits k Comment ls)) 1) names

-- the assignment whose own line is the one at this place
unfoldable pub assignment_at : List ℕ → ℕ → Assignment
assignment_at s at = assignment (part s at (line_at s at).end) (kernel_lines (drop (line_at s at).next s))

-- the assignments that a slot stands for: none where it is 0
unfoldable pub slot_at : List ℕ → ℕ → List Assignment
slot_at s n = cond (eqb n 0) [] (assignment_at s n ∷ [])

-- every place is in the text
pub record Placed (length_of : ℕ) (slots : List ℕ) : Type 0 where
  pub place : (k : ℕ) → k < names → get_or slots k 0 < length_of

-- what the pass answers of the lines from a place on, by where each name is assigned
pub record FoundSlots (s : List ℕ) (from : ℕ) (digits slots : List ℕ) : Type 0 where
  pub good : form_ok digits (kernel_lines (drop from s)) ≡ true
  pub assigned : (k : ℕ) → k < names → given digits k Comment (kernel_lines (drop from s)) ≡ slot_at s (get_or slots k 0)
  pub long : length slots ≡ names + 1
  pub within : Placed (length s) slots
  pub behind : (k : ℕ) → k < names → 0 < get_or slots k 0 → from ≤ get_or slots k 0

abbrev pub FoundAll : List ℕ → ℕ → List ℕ → Option (List ℕ) → Type 0
FoundAll s from digits None = form_ok digits (kernel_lines (drop from s)) ≡ false
FoundAll s from digits (Some slots) = FoundSlots s from digits slots
