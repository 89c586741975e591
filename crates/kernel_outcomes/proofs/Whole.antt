-- What the tables of cases say of lines holds of whole texts: a forbidden line refuses the text, and a text is read by its lines.
use Prim.Native.Nat.{ℕ}
use mathlib.Core.Path.{◌≡◌, refl}
use mathlib.Core.Bool.{true, not}
use mathlib.Core.List.{List, [], ◌∷◌, ◌++◌, map}
use lib.IntN.{ℤ}
use lib.Dec.{eqb}
use borrow.Author.Tests.{not-true}
use Rattle.base.specs.Scans.{all, all_of}
use Rattle.base.proofs.Tests.{and_both, and_first, and_second}
use Rattle.lines.specs.Lines.{line_end, with_byte, lines_of}
use Rattle.rules.specs.Answer.{refuse, unless}
use Rattle.kernel_rules.specs.declared.Stage.TheVariants.{Comment, Forbidden}
use Rattle.kernel_rules.specs.Lines.{trimmed, first_line, same}
use Rattle.kernel_rules.specs.Names.{clock_digits}
use Rattle.kernel_rules.specs.Assignments.{after_lines, ends_well}
use Rattle.kernel_rules.specs.Tables.{Lists, assignments_ok}
use Rattle.kernel_rules.specs.Kernel.{lines_read, read_kernel}
use Rattle.kernel_rules.specs.Edits.{read_lines}
use Rattle.kernel_outcomes.specs.Passing.{Passed, ended, is_line, are_lines}
use Rattle.kernel_outcomes.proofs.Closing.{lines_append, stays_forbidden}
use Rattle.kernel_outcomes.proofs.Passing.{passed_over_lem}

-- once a line is forbidden the text is refused 19, whatever follows
pub forbidden_refused : (digits : List ℕ) (ls more : List (List ℕ)) → after_lines Comment ls ≡ Forbidden → lines_read digits (first_line ∷ ls ++ more) ≡ refuse 19
unfolding lines_read assignments_ok all_of ends_well unless same
forbidden_refused digits ls more h = rw (lines_append Comment ls more, h, stays_forbidden more)

-- byte 10 ends a line
line_ended : (ls : List (List ℕ)) → with_byte line_end ls ≡ ([] ∷ ls)
unfolding with_byte
line_ended [] = refl
line_ended (l ∷ ls) = refl

first_ended : (l s : List ℕ) → is_line l ≡ true → lines_of (l ++ (line_end ∷ s)) ≡ (l ∷ lines_of s)
unfolding lines_of is_line all with_byte
first_ended [] s h = line_ended (lines_of s)
first_ended (b ∷ l) s h =
    rw (first_ended l s (and_second (not (eqb b line_end)) _ h), not-true (eqb b line_end) (and_first (not (eqb b line_end)) _ h))

lines_of_ended : (ls : List (List ℕ)) → are_lines ls ≡ true → lines_of (ended ls) ≡ ls
unfolding lines_of ended are_lines
lines_of_ended [] h = refl
lines_of_ended (l ∷ ls) h = rw (first_ended l (ended ls) (and_first (is_line l) _ h), lines_of_ended ls (and_second (is_line l) _ h))

pub read_of_lines : (ls : List (List ℕ)) (clock : ℤ) (lent : Lists) → are_lines ls ≡ true → read_kernel (ended ls) clock lent ≡ read_lines (map trimmed ls) clock lent
unfolding read_kernel read_lines
read_of_lines ls clock lent h = rw (lines_of_ended ls h)

-- Of a text: where the lines b, as they are after dropping, are passed over at their place, the text with them is read as the one without.
lines_first : (a b : List (List ℕ)) → are_lines (a ++ b) ≡ true → are_lines a ≡ true
unfolding are_lines
lines_first [] b h = refl
lines_first (l ∷ a) b h = and_both {a = is_line l} (and_first (is_line l) _ h) (lines_first a b (and_second (is_line l) _ h))

lines_second : (a b : List (List ℕ)) → are_lines (a ++ b) ≡ true → are_lines b ≡ true
unfolding are_lines
lines_second [] b h = h
lines_second (l ∷ a) b h = lines_second a b (and_second (is_line l) _ h)

lines_both : (a b : List (List ℕ)) → are_lines a ≡ true → are_lines b ≡ true → are_lines (a ++ b) ≡ true
unfolding are_lines
lines_both [] b h k = k
lines_both (l ∷ a) b h k = and_both {a = is_line l} (and_first (is_line l) _ h) (lines_both a b (and_second (is_line l) _ h) k)

trimmed_append : (a b : List (List ℕ)) → map trimmed (a ++ b) ≡ map trimmed a ++ map trimmed b
trimmed_append [] b = refl
trimmed_append (l ∷ a) b = rw (trimmed_append a b)

module _ (clock : ℤ) (lent : Lists) (f : List ℕ) (a b c : List (List ℕ)) (lines : are_lines (f ∷ a ++ (b ++ c)) ≡ true) where
  lines_without : are_lines (f ∷ a ++ c) ≡ true
  unfolding are_lines
  lines_without =
      let rest = and_second (is_line f) _ lines in
      and_both {a = is_line f} (and_first (is_line f) _ lines) (lines_both a c (lines_first a (b ++ c) rest) (lines_second b c (lines_second a (b ++ c) rest)))

  pub text_passed_over : ends_well (after_lines Comment (map trimmed a)) ≡ true → Passed (clock_digits clock) (after_lines Comment (map trimmed a)) (map trimmed b)
      → read_kernel (ended (f ∷ a ++ (b ++ c))) clock lent ≡ read_kernel (ended (f ∷ a ++ c)) clock lent
  unfolding read_lines
  text_passed_over w h =
      rw (
        read_of_lines (f ∷ a ++ (b ++ c)) clock lent lines,
        read_of_lines (f ∷ a ++ c) clock lent lines_without,
        trimmed_append a (b ++ c),
        trimmed_append b c,
        trimmed_append a c,
        passed_over_lem (clock_digits clock) (trimmed f) (map trimmed a) (map trimmed b) (map trimmed c) w h,
      )
