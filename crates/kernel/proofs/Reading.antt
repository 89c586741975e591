-- From what was gathered to the call's definition.
use Rattle.rules.specs.declared.refusal.Refusal.{Refusal}
use Rattle.std.specs.Prelude.{Result, Ok, Err}
use Rattle.kernel_rules.specs.declared.Kernel.{Kernel}
use Prim.Native.Nat.{ℕ}
use mathlib.Core.Path.{◌≡◌, refl, sym, ap, ◌∙◌}
use mathlib.Core.List.{List, [], ◌∷◌}
use lib.IntN.{ℤ}
use mir.Syntax.{w64}
use mir.Val.{SFits, to_z, of_z}
use mir.Facts.{to_z-of_z}
use Rattle.rules.specs.Answer.{Answer, answer, refused, unless, and_then, Numbered, as_numbered, answer_of}
use Rattle.rules.proofs.Answers.{payload, not_answer}
use Rattle.tables.proofs.Guards.{then-unless}
use Rattle.kernel_rules.specs.Lines.{kernel_lines, first_line, same}
use Rattle.kernel_rules.specs.Names.{clock_digits}
use Rattle.kernel_rules.specs.Tables.{Lists, Tables, values, assignments_ok, exact_ok, tables_accepted}
use Rattle.kernel_rules.specs.Kernel.{lines_read, read_kernel, kernel_given, lists_after}
use Rattle.kernel_tables.specs.Given.{Kept, kept_accepted}
use Rattle.kernel_tables.proofs.Clipped.{clipped_accepted}
use Rattle.kernel_gather.specs.declared.Gathered.{Gathered}
use Rattle.kernel_gather.specs.Gathered.{assigned_tables, lines_tables, kept, kept_in, gathered}
use Rattle.kernel_give.specs.Fitting.{fitting, Gives}

lines_read_lem : (digits : List ℕ) (ls : List (List ℕ)) → lines_read digits ls ≡ and_then (lines_tables digits ls) tables_accepted
unfolding lines_read lines_tables assigned_tables and_then
lines_read_lem digits [] = refl
lines_read_lem digits (l ∷ ls) =
    sym
    (then-unless 18 (same l first_line) _ tables_accepted
    ∙ ap (λ (a : Answer Tables). unless 18 (same l first_line) a)
    (then-unless 19 (assignments_ok digits ls) _ tables_accepted
    ∙ ap (λ (a : Answer Tables). unless 19 (assignments_ok digits ls) a)
    (then-unless 20 (exact_ok (values digits ls)) _ tables_accepted)))

kept_answer : (a : Answer Tables) (k : Kept) → answer k ≡ kept a → and_then a tables_accepted ≡ kept_accepted k
unfolding kept and_then
kept_answer (answer u) k h = sym (clipped_accepted u) ∙ ap kept_accepted (sym (payload h))
kept_answer (refused r) k h = absurd (not_answer (sym h))

kept_refused : (a : Answer Tables) (k : Numbered) → refused k ≡ kept a → and_then a tables_accepted ≡ refused k
unfolding kept and_then
kept_refused (answer u) k h = absurd (not_answer h)
kept_refused (refused j) k h = let z : k ≡ j = cc in rw z

module _ (text : List ℕ) (clock : ℤ) (lent : Lists) (ms os ss es cs : List ℕ) (ts : List ℤ) (rs : List ℕ) (a : Result Gathered Refusal)
    (fits : SFits w64 clock) (called : gathered a ms os ss es cs ts rs ≡ kept (lines_tables (clock_digits (to_z w64 (of_z w64 clock))) (kernel_lines text))) where
  -- a clock's number is its bits at a call
  e : gathered a ms os ss es cs ts rs ≡ kept (lines_tables (clock_digits clock) (kernel_lines text))
  e = called ∙ rw (to_z-of_z fits)

  module _ (g : Gathered) (h : a ≡ Ok g) where
    same_read : fitting (kept_in g ms os ss es cs ts rs) lent ≡ read_kernel text clock lent
    unfolding read_kernel fitting gathered
    same_read =
        rw (lines_read_lem (clock_digits clock) (kernel_lines text), kept_answer (lines_tables (clock_digits clock) (kernel_lines text)) (kept_in g ms os ss es cs ts rs) (rw h at e))

    pub read_given : (r : Result Kernel Refusal) (after : Lists) → Gives (kept_in g ms os ss es cs ts rs) lent r after → (answer_of r ≡ kernel_given (read_kernel text clock lent)) × (after ≡ lists_after (read_kernel text clock lent) lent)
    read_given r after p = rw (← same_read) (p.given, p.lists)

  pub read_refused : (k : Refusal) → a ≡ Err k → (refused (as_numbered k) ≡ kernel_given (read_kernel text clock lent)) × (lent ≡ lists_after (read_kernel text clock lent) lent)
  unfolding read_kernel gathered and_then kernel_given lists_after
  read_refused k h =
      let w : lines_read (clock_digits clock) (kernel_lines text) ≡ refused (as_numbered k) = lines_read_lem (clock_digits clock) (kernel_lines text) ∙ kept_refused (lines_tables (clock_digits clock) (kernel_lines text)) (as_numbered k) (rw h at e) in
      (rw w, rw w)
