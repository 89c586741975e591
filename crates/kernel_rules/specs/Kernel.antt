-- The call: a kernel text to its tables, and the lent lists afterwards.
use Rattle.std.specs.Prelude.{ℕ, Bool, List, [], ◌∷◌, ◌++◌, ℤ, leb, length, drop}
use Rattle.base.specs.Scans.{all_of}
use Rattle.rules.specs.Answer.{Answer, answer, refused, refuse, unless, and_then}
use Rattle.kernel_rules.specs.declared.Kernel.{Kernel}
use Rattle.kernel_rules.specs.Lines.{kernel_lines, first_line, same}
use Rattle.kernel_rules.specs.Names.{clock_digits}
use Rattle.kernel_rules.specs.Tables.{Lists, Tables, values, assignments_ok, exact_ok, tables_of, tables_accepted}

-- "18 first line wrong", then 19 and 20 of the lines after it, then the tables
unfoldable pub lines_read : List ℕ → List (List ℕ) → Answer Tables
lines_read digits [] = refuse 18
lines_read digits (l ∷ ls) =
    unless 18 (same l first_line)
    (unless 19 (assignments_ok digits ls)
    (unless 20 (exact_ok (values digits ls))
    (tables_accepted (tables_of (values digits ls)))))

-- "16 a lent list too short": each needs room for its own numbers
unfoldable pub fits : Lists → Lists → Bool
fits g lent =
    all_of
    (leb (length g.moduli) (length lent.moduli)
    ∷ leb (length g.offsets) (length lent.offsets)
    ∷ leb (length g.starts) (length lent.starts)
    ∷ leb (length g.ends) (length lent.ends)
    ∷ leb (length g.counts) (length lent.counts)
    ∷ leb (length g.times) (length lent.times)
    ∷ leb (length g.rates) (length lent.rates)
    ∷ [])

unfoldable pub read_kernel : List ℕ → ℤ → Lists → Answer Tables
read_kernel text clock lent =
    and_then (lines_read (clock_digits clock) (kernel_lines text)) (λ t. unless 16 (fits t.lists lent) (answer t))

-- "n, delimiter, time system and list lengths are the answer"
unfoldable pub kernel_given : Answer Tables → Answer Kernel
kernel_given (answer t) =
    answer
    (record {
      n = t.n;
      delimiter = t.delimiter;
      system = t.system;
      partitions = length t.lists.starts;
      segments = length t.lists.counts;
    })
kernel_given (refused k) = refused k

-- the front of a lent list written, its rest as it was
unfoldable pub front : {A : Type 0} → List A → List A → List A
front s lent = s ++ drop (length s) lent

-- the same of every lent list
unfoldable pub fronts : Lists → Lists → Lists
fronts g lent =
    record {
      moduli = front g.moduli lent.moduli;
      offsets = front g.offsets lent.offsets;
      starts = front g.starts lent.starts;
      ends = front g.ends lent.ends;
      counts = front g.counts lent.counts;
      times = front g.times lent.times;
      rates = front g.rates lent.rates;
    }

-- "Lists go to lent buffers"; a refusal leaves them
unfoldable pub lists_after : Answer Tables → Lists → Lists
lists_after (answer t) lent = fronts t.lists lent
lists_after (refused k) lent = lent
