-- The lines of a text from a place on: the line at the place, and the lines from the next on.
--     lines_here, lines_none      what stands at a place, as a loop over lines meets it
--     end_above, end_within, next_above, next_within      the bounds of a line in the text
use Prim.Native.Nat.{ℕ, ◌+◌, ◌-◌, ◌≤◌, ◌<◌, min}
use mathlib.Core.Path.{◌≡◌, refl, sym, ap, ◌∙◌}
use mathlib.Core.Bool.{false, ◌||◌}
use mathlib.Core.List.{List, [], ◌∷◌, map}
use lib.Dec.{eqb, ltb}
use lib.ListN.{length, take, drop, drop_of_length-le, length-drop}
use lib.Seq.{drop-drop, take-take}
use borrow.Author.Tests.{lt-ltb, le-ltb, ltb-true, ltb-false}
use native.Mathlib.Nat.{add-zero}
use native.Mathlib.Omega.{arith}
use Rattle.base.proofs.Tests.{by_test, not_both, or_first}
use Rattle.lines.specs.Lines.{line_end, lines_of}
use Rattle.lines.specs.Steps.{line_in, ends_in, taken_in, last_line}
use Rattle.lines.proofs.Keeping.{end_of}
use Rattle.lines.proofs.Step.{line_front, ends_short}
use Rattle.lines.proofs.Whole.{lines_split}
use Rattle.kernel_rules.specs.Lines.{trim_to, trim_one, kept_of, trimmed, kernel_lines, part}
use Rattle.kernel_lines.specs.declared.Line.{Line}
use Rattle.kernel_lines.specs.Places.{line_at}
use Rattle.kernel_lines.proofs.Trimming.{kept_within}

line_short : (bs : List ℕ) → length (line_in bs) ≤ length bs
unfolding line_in
line_short [] = omega arith
line_short (b ∷ bs) = by_test (eqb b line_end) (λ t. rw t (omega arith)) (λ f. rw f (omega (arith, line_short bs)))

-- how many bytes a line takes, by where it ends
taken_ended : (bs : List ℕ) → length (line_in bs) < length bs → taken_in bs ≡ length (line_in bs) + 1
unfolding taken_in
taken_ended bs h = rw (ends_short bs, lt-ltb _ _ h)

taken_last : (bs : List ℕ) → length bs ≤ length (line_in bs) → taken_in bs ≡ length (line_in bs)
unfolding taken_in
taken_last bs h = rw (ends_short bs, le-ltb _ _ h) (add-zero _)

-- a line takes a byte at least, and no more than there are
taken_within : (bs : List ℕ) → taken_in bs ≤ length bs
taken_within bs =
    by_test (ltb (length (line_in bs)) (length bs))
    (λ t. ended (ltb-true _ _ t))
    (λ f. last (ltb-false _ _ f))
  where
    ended : length (line_in bs) < length bs → taken_in bs ≤ length bs
    ended h = omega (arith, taken_ended bs h)

    last : length bs ≤ length (line_in bs) → taken_in bs ≤ length bs
    last h = omega (arith, taken_last bs h, line_short bs)

taken_some : (bs : List ℕ) → 0 < length bs → 0 < taken_in bs
taken_some bs some =
    by_test (ltb (length (line_in bs)) (length bs))
    (λ t. ended (ltb-true _ _ t))
    (λ f. last (ltb-false _ _ f))
  where
    ended : length (line_in bs) < length bs → 0 < taken_in bs
    ended h = omega (arith, taken_ended bs h)

    last : length bs ≤ length (line_in bs) → 0 < taken_in bs
    last h = omega (arith, taken_last bs h)

-- the code's ways out
module _ (s : List ℕ) (at : ℕ) where
  pub line_none : length s ≤ at → record { start = at; end = at; next = at } ≡ line_at s at
  unfolding line_at line_in taken_in ends_in kept_of trim_to trim_one
  line_none h = rw (drop_of_length-le s h, add-zero at)

  module _ (stop k : ℕ) (lt : at < length s) (e : stop ≡ end_of s at) (ek : k ≡ kept_of (take (stop - at) (drop at s))) where
    kept_here : k ≡ kept_of (line_in (drop at s))
    kept_here = ek ∙ ap kept_of (ap (λ (n : ℕ). take n (drop at s)) minus ∙ line_front (drop at s))
      where
        minus : stop - at ≡ length (line_in (drop at s))
        minus = omega arith

    pub line_is : record { start = at; end = at + k; next = min (length s) (stop + 1) } ≡ line_at s at
    unfolding line_at
    line_is = rw (← kept_here, next)
      where
        ended : length (line_in (drop at s)) < length (drop at s) → min (length s) (stop + 1) ≡ at + taken_in (drop at s)
        ended h = omega (arith, taken_ended (drop at s) h, length-drop at s)

        last : length (drop at s) ≤ length (line_in (drop at s)) → min (length s) (stop + 1) ≡ at + taken_in (drop at s)
        last h = omega (arith, taken_last (drop at s) h, length-drop at s, line_short (drop at s))

        next : min (length s) (stop + 1) ≡ at + taken_in (drop at s)
        next = by_test (ltb (length (line_in (drop at s))) (length (drop at s))) (λ t. ended (ltb-true _ _ t)) (λ f. last (ltb-false _ _ f))

module _ (s : List ℕ) (at : ℕ) (r : Line) (e : r ≡ line_at s at) (h : at < length s) where
  pub end_above : at ≤ r.end
  unfolding line_at
  end_above = rw e (omega arith)

  pub end_within : r.end ≤ length s
  unfolding line_at
  end_within = rw e (omega (arith, kept_within (line_in (drop at s)), line_short (drop at s), length-drop at s))

  pub next_above : at < r.next
  unfolding line_at
  next_above = rw e (omega (arith, taken_some (drop at s) (omega (arith, length-drop at s))))

  pub next_within : r.next ≤ length s
  unfolding line_at
  next_within = rw e (omega (arith, taken_within (drop at s), length-drop at s))

-- the first line of a text that has a byte
no_end : (bs : List ℕ) → ends_in bs ≡ false → line_in bs ≡ bs
unfolding line_in ends_in
no_end [] f = refl
no_end (b ∷ bs) f = by_test (eqb b line_end) (λ t. absurd (not_both (or_first (ends_in bs) t) f)) (λ g. rw (g, no_end bs (rest g f)))
  where
    rest : eqb b line_end ≡ false → (eqb b line_end || ends_in bs) ≡ false → ends_in bs ≡ false
    rest g f = rw g at f

last_line_lem : (bs : List ℕ) → 0 < length bs → last_line bs ≡ bs ∷ []
unfolding last_line
last_line_lem [] h = absurd (omega arith)
last_line_lem (b ∷ bs) h = refl

first_line : (bs : List ℕ) → 0 < length bs → lines_of bs ≡ line_in bs ∷ lines_of (drop (taken_in bs) bs)
unfolding taken_in lines_of
first_line bs h = lines_split bs ∙ by_test (ends_in bs) (λ t. rw t) (λ f. rw (f, no_end bs f, last_line_lem bs h, add-zero (length bs), all_gone))
  where
    all_gone : drop (length bs) bs ≡ []
    all_gone = drop_of_length-le bs {i = length bs} (omega arith)

-- what is kept of a line, as it is cut out of the text
part_kept : (s : List ℕ) (at : ℕ) → trimmed (line_in (drop at s)) ≡ part s at (line_at s at).end
unfolding trimmed line_at
part_kept s at =
    ap (take (kept_of (line_in (drop at s)))) (sym (line_front (drop at s)))
    ∙ take-take (kept_of (line_in (drop at s))) (length (line_in (drop at s))) (drop at s) (kept_within (line_in (drop at s)))
    ∙ sym (ap (λ (n : ℕ). take n (drop at s)) width)
  where
    width : at + kept_of (line_in (drop at s)) - at ≡ kept_of (line_in (drop at s))
    width = omega arith

module _ (s : List ℕ) (at : ℕ) where
  pub lines_at : at < length s → kernel_lines (drop at s) ≡ part s at (line_at s at).end ∷ kernel_lines (drop (line_at s at).next s)
  unfolding line_at
  lines_at h =
      ap (map trimmed) (first_line (drop at s) (omega (arith, length-drop at s)))
      ∙ rw (part_kept s at) (ap (λ (x : List ℕ). part s at (line_at s at).end ∷ kernel_lines x) (drop-drop (taken_in (drop at s)) at s))

  pub lines_none : length s ≤ at → kernel_lines (drop at s) ≡ []
  unfolding lines_of
  lines_none h = rw (drop_of_length-le s h)

pub lines_here :
    (s : List ℕ) (at : ℕ) (r : Line) → r ≡ line_at s at → at < length s → kernel_lines (drop at s) ≡ part s at r.end ∷ kernel_lines (drop r.next s)
lines_here s at r e h = rw e (lines_at s at h)
