-- One step through a chunk, put together from the place where the line ends and the bytes kept.
use Prim.Native.Nat.{ℕ, suc, ◌+◌, ◌-◌, ◌≤◌, ◌<◌, min}
use mathlib.Core.Path.{◌≡◌, refl, sym, subst, ◌∙◌}
use mathlib.Core.Bool.{true, false}
use mathlib.Core.List.{List, [], ◌∷◌, ◌++◌}
use lib.Dec.{eqb, ltb, leb, leb-suc-suc}
use lib.ListN.{length, take, drop, length-append, length-take, length-drop}
use lib.Seq.{paste, take_all, take-length, take-append-add, length-take-le}
use borrow.Author.Tests.{lt-ltb, le-ltb, leb-true, leb-false}
use native.Mathlib.Nat.{add_assoc, add-zero}
use native.Mathlib.Omega.{arith}
use Rattle.base.proofs.Tests.{by_test}
use Rattle.lines.specs.Lines.{line_end, kept_of}
use Rattle.lines.specs.Steps.{line_in, ends_in, taken_in, kept_with, next_line, line_after}

pub line_front : (bs : List ℕ) → take (length (line_in bs)) bs ≡ line_in bs
unfolding line_in
line_front [] = refl
line_front (b ∷ bs) = by_test (eqb b line_end) (λ t. rw t) (λ f. rw (f, line_front bs))

-- a line ended in a chunk is shorter than the chunk
pub ends_short : (bs : List ℕ) → ends_in bs ≡ ltb (length (line_in bs)) (length bs)
unfolding line_in ends_in
ends_short [] = refl
ends_short (b ∷ bs) =
    by_test (eqb b line_end)
    (λ t. rw t (sym (lt-ltb 0 (suc (length bs)) (omega arith))))
    (λ f. rw f (ends_short bs ∙ sym (leb-suc-suc (suc (length (line_in bs))) (length bs))))

take_min : (n : ℕ) (l : List ℕ) → take (min (length l) n) l ≡ take n l
take_min n l =
    by_test (leb (length l) n)
    (λ t. short (leb-true _ _ t))
    (λ f. long (leb-false _ _ f))
  where
    short : length l ≤ n → take (min (length l) n) l ≡ take n l
    short h = let e : min (length l) n ≡ length l = omega arith in rw (e, take-length l, take_all n l h)

    long : n < length l → take (min (length l) n) l ≡ take n l
    long h = let e : min (length l) n ≡ n = omega arith in rw e

-- the bytes l put behind the first `kept` bytes of the line buffer, as far as there is room
module _ (line : List ℕ) (kept : ℕ) (l : List ℕ) (room : kept ≤ length line) where
  front : length (take kept line) ≡ kept
  front = length-take-le kept line (omega arith)

  kept_is : kept_of (length line) (take kept line ++ l) ≡ take kept line ++ take (min (length l) (length line - kept)) l
  unfolding kept_of
  kept_is =
      subst (λ n. take n (take kept line ++ l) ≡ take kept line ++ take (length line - kept) l) all (take-append-add (take kept line) l (length line - kept))
      ∙ rw (take_min (length line - kept) l)
    where
      all : length (take kept line) + (length line - kept) ≡ length line
      all = rw front (omega arith)

  kept_length : kept + min (length l) (length line - kept) ≡ length (kept_of (length line) (take kept line ++ l))
  kept_length = rw (kept_is, length-append, front, length-take) (omega arith)

  kept_pasted :
      paste line kept l (min (length l) (length line - kept)) ≡ kept_of (length line) (take kept line ++ l) ++ drop (length (kept_of (length line) (take kept line ++ l))) line
  kept_pasted = rw (← kept_length, kept_is)

module _ (chunk : List ℕ) (at e : ℕ) (end_is : e ≡ at + length (line_in (drop at chunk))) where
  part_is : take (e - at) (drop at chunk) ≡ line_in (drop at chunk)
  part_is = rw same (line_front (drop at chunk))
    where
      same : e - at ≡ length (line_in (drop at chunk))
      same = omega arith

  ends : e < length chunk → ends_in (drop at chunk) ≡ true
  ends h = ends_short (drop at chunk) ∙ lt-ltb (length (line_in (drop at chunk))) (length (drop at chunk)) (omega (arith, length-drop at chunk))

  goes_on : length chunk ≤ e → ends_in (drop at chunk) ≡ false
  goes_on h = ends_short (drop at chunk) ∙ le-ltb (length (line_in (drop at chunk))) (length (drop at chunk)) (omega (arith, length-drop at chunk))

  module _ (line : List ℕ) (kept m : ℕ) (room : kept ≤ length line) (more-is : m ≡ kept + min (length (take (e - at) (drop at chunk))) (length line - kept)) where
    m_is : m ≡ length (kept_with (length line) (take kept line) (drop at chunk))
    unfolding kept_with
    m_is = more-is ∙ rw part_is (kept_length line kept (line_in (drop at chunk)) room)

    pub line_is : {out : List ℕ} → out ≡ paste line kept (take (e - at) (drop at chunk)) (m - kept) → out ≡ line_after chunk at line kept
    unfolding line_after kept_with
    line_is {out} o = o ∙ rw (copied, part_is) (kept_pasted line kept (line_in (drop at chunk)) room)
      where
        copied : m - kept ≡ min (length (take (e - at) (drop at chunk))) (length line - kept)
        copied = omega arith

    pub step_ended : e < length chunk → record { at = e + 1; kept = m; ended = true } ≡ next_line chunk at line kept
    unfolding next_line taken_in
    step_ended h = rw (← m_is, ends h, end_is, add_assoc)

    pub step_open : length chunk ≤ e → record { at = e; kept = m; ended = false } ≡ next_line chunk at line kept
    unfolding next_line taken_in
    step_open h = rw (← m_is, goes_on h, end_is, add-zero)
