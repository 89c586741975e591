-- Where the 2 and 3 of a kernel are found.
use Prim.Native.Nat.{ℕ}
use mathlib.Core.Path.{◌≡◌, sym}
use mathlib.Core.Bool.{false, true≢false}
use mathlib.Core.List.{List, [], ◌∷◌}
use mathlib.Core.Logic.{◌↔◌, ⊎_elim}
use lib.IntN.{ℤ}
use lib.Dec.{eqb}
use lib.ListN.{length}
use borrow.Author.Tests.{eqb-true, eq-eqb}
use Rattle.base.proofs.Tests.{and_first, and_second}
use Rattle.rules.specs.Answer.{answer, refuse_at, unless, and_then}
use Rattle.rules.specs.Accepted.{accepted}
use Rattle.rules.proofs.Answers.{not_answer}
use Rattle.outcomes.proofs.Ladder.{answers}
use Rattle.places.proofs.Placed.{past_unless, past_then}
use Rattle.places.proofs.Calls.{gives_rows}
use Rattle.kernel_rules.specs.Lines.{kernel_lines}
use Rattle.kernel_rules.specs.Names.{clock_digits}
use Rattle.kernel_rules.specs.Tables.{Lists, Tables, layout_in, partitions_in, segments_in, tables_accepted}
use Rattle.kernel_rules.specs.Kernel.{lines_read, read_kernel}
use Rattle.kernel_outcomes.specs.Rows.{LinesGive, after_first, FieldLists, OfTables, KernelRows}

-- tables whose lists are n long are refused k at i
abbrev RefusedAt : ℕ → ℕ → Tables → Type 0
RefusedAt k i t = accepted (layout_in t) (partitions_in t.lists) (segments_in t.lists) (answer t) ≡ refuse_at k i

good_lines : (digits : List ℕ) (ls : List (List ℕ)) (t : Tables) → LinesGive digits ls t → lines_read digits ls ≡ tables_accepted t
unfolding lines_read unless
good_lines digits ls t (after_first l rest a b c) = rw (a, b, c)

module _ (k i : ℕ) where
  past_lists : (t : Tables) → tables_accepted t ≡ refuse_at k i → FieldLists t × RefusedAt k i t
  unfolding tables_accepted
  past_lists t h =
      let w = past_unless 1 _ _ h in (
        record {
          moduli = eqb-true _ _ (and_first _ (eqb (length t.lists.offsets) t.n) w.0);
          offsets = eqb-true _ _ (and_second (eqb (length t.lists.moduli) t.n) _ w.0);
        },
        w.1,
      )

  good_lists : (t : Tables) → FieldLists t → RefusedAt k i t → tables_accepted t ≡ refuse_at k i
  unfolding tables_accepted unless
  good_lists t w h = rw (eq-eqb _ _ w.moduli, eq-eqb _ _ w.offsets) h

  past_lines : (digits : List ℕ) (ls : List (List ℕ)) → lines_read digits ls ≡ refuse_at k i → (t : Tables) × LinesGive digits ls t × (tables_accepted t ≡ refuse_at k i)
  unfolding lines_read unless
  past_lines digits [] h = absurd (true≢false (sym (past_unless 18 false (lines_read digits []) h).0))
  past_lines digits (l ∷ ls) h =
      let a = past_unless 18 _ _ h in
      let b = past_unless 19 _ _ a.1 in
      let c = past_unless 20 _ _ b.1 in
      (_, after_first l ls a.0 b.0 c.0, c.1)

  -- what is lent gives no place
  before_lent : (text : List ℕ) (clock : ℤ) (lent : Lists) → read_kernel text clock lent ≡ refuse_at k i → lines_read (clock_digits clock) (kernel_lines text) ≡ refuse_at k i
  unfolding read_kernel
  before_lent text clock lent h = ⊎_elim (λ e. e) (λ w. absurd (not_answer (sym (past_unless 16 _ _ w.2).1))) (past_then _ _ h)

  kernel_placed : (text : List ℕ) (clock : ℤ) (lent : Lists) → read_kernel text clock lent ≡ refuse_at k i ↔ OfTables (RefusedAt k i) text clock
  unfolding read_kernel and_then
  kernel_placed text clock lent = (
    λ h. let w = past_lines _ _ (before_lent text clock lent h) in let v = past_lists w.0 w.2 in (w.0, w.1, v.0, v.1),
    λ w. rw (good_lines _ _ w.0 w.1, good_lists w.0 w.2 w.3),
  )

module _ (text : List ℕ) (clock : ℤ) (lent : Lists) (i : ℕ) where
  by_tables : (k : ℕ) (Due : Tables → Type 0) → ((t : Tables) → RefusedAt k i t ↔ Due t) → read_kernel text clock lent ≡ refuse_at k i ↔ OfTables Due text clock
  by_tables k Due same = (
    λ h. let w = (kernel_placed k i text clock lent).0 h in (w.0, w.1, w.2, (same w.0).0 w.3),
    λ w. (kernel_placed k i text clock lent).1 (w.0, w.1, w.2, (same w.0).1 w.3),
  )

  pub kernel_rows : KernelRows text clock lent i
  kernel_rows =
      record {
        two = by_tables 2 _ (λ t. (gives_rows _ _ _ _ (answers t) i).0);
        three = by_tables 3 _ (λ t. (gives_rows _ _ _ _ (answers t) i).1);
      }
