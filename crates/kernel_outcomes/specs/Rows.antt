-- Request 3 of a kernel: where its 2 and 3 are found, over the lists that the text gives.
use Rattle.std.specs.Prelude.{ℕ, ◌≡◌, true, List, ◌∷◌, ◌↔◌, ℤ, length}
use Rattle.rules.specs.Answer.{refuse_at}
use Rattle.places.specs.Calls.{TwoDue, ThreeDue}
use Rattle.kernel_rules.specs.Lines.{kernel_lines, first_line, same}
use Rattle.kernel_rules.specs.Names.{clock_digits}
use Rattle.kernel_rules.specs.Tables.{Lists, Tables, values, assignments_ok, exact_ok, tables_of, layout_in, partitions_in, segments_in}
use Rattle.kernel_rules.specs.Kernel.{read_kernel}

-- none of 18, 19 and 20 is due, and the lines give these tables
pub data LinesGive (digits : List ℕ) : List (List ℕ) → Tables → Type 0 where
  after_first :
      (l : List ℕ) (ls : List (List ℕ)) → same l first_line ≡ true → assignments_ok digits ls ≡ true → exact_ok (values digits ls) ≡ true
      → LinesGive digits (l ∷ ls) (tables_of (values digits ls))

-- moduli and offsets are n long: the 1 that a kernel alone can give is not due
pub record FieldLists (t : Tables) : Type 0 where
  pub moduli : length t.lists.moduli ≡ t.n
  pub offsets : length t.lists.offsets ≡ t.n

-- the text gives tables whose two lists are n long and of which Due holds
abbrev pub OfTables : (Tables → Type 0) → List ℕ → ℤ → Type 0
OfTables Due text clock = (t : Tables) × LinesGive (clock_digits clock) (kernel_lines text) t × FieldLists t × Due t

-- 2 and 3 in both directions, whatever is lent
pub record KernelRows (text : List ℕ) (clock : ℤ) (lent : Lists) (i : ℕ) : Type 0 where
  pub two : read_kernel text clock lent ≡ refuse_at 2 i ↔ OfTables (λ t. TwoDue (layout_in t) (partitions_in t.lists) i) text clock
  pub three :
      read_kernel text clock lent ≡ refuse_at 3 i
      ↔ OfTables (λ t. ThreeDue (layout_in t) (partitions_in t.lists) (segments_in t.lists) i) text clock
