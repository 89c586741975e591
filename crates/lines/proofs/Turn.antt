-- One step of the code and what is carried: a loop over a chunk feeds the chunk's bytes, line by line.
use Prim.Native.Nat.{ℕ, ◌≤◌}
use mathlib.Core.Path.{◌≡◌, refl, sym, ap, ◌∙◌}
use mathlib.Core.Bool.{Bool, true, false, cond}
use mathlib.Core.List.{List, [], ◌∷◌, ◌++◌, append-nil, append_assoc}
use lib.Dec.{eqb}
use lib.ListN.{length, take, drop, length-take, take-append-drop, drop_of_length-le}
use lib.Seq.{take-append_seam, drop-drop}
use native.Mathlib.Nat.{suc-add}
use native.Mathlib.Omega.{arith}
use Rattle.base.proofs.Tests.{by_test}
use Rattle.lines.specs.declared.LineStep.{LineStep}
use Rattle.lines.specs.Lines.{line_end, kept_of}
use Rattle.lines.specs.Steps.{Carried, carried, with_next, fed, line_left, line_in, ends_in, taken_in, kept_with, next_line, line_after, carried_on}
use Rattle.lines.proofs.Whole.{fed_join, next_end, next_byte, kept_again, kept_all, kept_fits}

-- the bytes that a step takes, fed
pub step_fed :
    (room : ℕ) (ls : List (List ℕ)) (l bs : List ℕ)
    → length l ≤ room
    → fed room (carried ls l) (take (taken_in bs) bs) ≡ carried_on ls (ends_in bs) (kept_with room l bs)
unfolding taken_in line_in ends_in kept_with fed carried_on
step_fed room ls l [] h = rw (append-nil, kept_all room l h)
step_fed room ls l (b ∷ bs) h =
    by_test (eqb b line_end)
    (λ t. rw t (next_end room ls l b t ∙ rw (append-nil l, kept_all room l h)))
    (λ f. rw (f, suc-add)
    (ap (λ c. fed room c (take (taken_in bs) bs)) (next_byte room ls l b f)
    ∙ step_fed room ls (kept_of room (l ++ (b ∷ []))) bs (kept_fits room (l ++ (b ∷ [])))
    ∙ rw (kept_again room (l ++ (b ∷ [])) (line_in bs), append_assoc)))

-- the lines that have ended do not matter to the line under way
same_next : (room : ℕ) (c d : Carried) (b : ℕ) → c.line ≡ d.line → (with_next room c b).line ≡ (with_next room d b).line
unfolding with_next carried
same_next room c d b e = by_test (eqb b line_end) (λ t. rw t) (λ f. rw (f, e))

same_left : (room : ℕ) (c d : Carried) (bs : List ℕ) → c.line ≡ d.line → (fed room c bs).line ≡ (fed room d bs).line
unfolding fed
same_left room c d [] e = e
same_left room c d (b ∷ bs) e = same_left room (with_next room c b) (with_next room d b) bs (same_next room c d b e)

pub left_alone : (room : ℕ) (ls : List (List ℕ)) (l bs : List ℕ) → (fed room (carried ls l) bs).line ≡ line_left room l bs
unfolding line_left carried
left_alone room ls l bs = same_left room (carried ls l) (carried [] l) bs refl

-- the lines that had ended before stay in front
pub ended_after : (room : ℕ) (ls : List (List ℕ)) (l bs : List ℕ) → (fed room (carried ls l) bs).ended ≡ ls ++ (fed room (carried [] l) bs).ended
unfolding fed carried
ended_after room ls l [] = sym (append-nil ls)
ended_after room ls l (b ∷ bs) =
    by_test (eqb b line_end)
    (λ t. ap (λ c. (fed room c bs).ended) (next_end room ls l b t)
    ∙ (ended_after room (ls ++ (l ∷ [])) [] bs ∙ rw (append_assoc) (ap (λ (x : List (List ℕ)). ls ++ x) (sym (ended_after room (l ∷ []) [] bs) ∙ sym (ap (λ c. (fed room c bs).ended) (next_end room [] l b t))))))
    (λ f. ap (λ c. (fed room c bs).ended) (next_byte room ls l b f)
    ∙ (ended_after room ls (kept_of room (l ++ (b ∷ []))) bs ∙ ap (λ (x : List (List ℕ)). ls ++ x) (sym (ap (λ c. (fed room c bs).ended) (next_byte room [] l b f)))))

settled :
    (room : ℕ) (ls : List (List ℕ)) (e : Bool) (k : ℕ) (l bs : List ℕ)
    → (fed room (carried_on ls e (take k l)) bs).line ≡ line_left room (take (cond e 0 k) l) bs
unfolding carried_on
settled room ls true k l bs = left_alone room (ls ++ (take k l ∷ [])) [] bs
settled room ls false k l bs = left_alone room ls (take k l) bs

-- One step of the code. What was carried, fed the rest of the chunk, is what is carried after the step, fed what is left then.
module _ (chunk : List ℕ) (at : ℕ) (line : List ℕ) (kept : ℕ) where
  pub kept_now : take (next_line chunk at line kept).kept (line_after chunk at line kept) ≡ kept_with (length line) (take kept line) (drop at chunk)
  unfolding next_line line_after
  kept_now = take-append_seam (kept_with (length line) (take kept line) (drop at chunk)) _

  pub step_turn :
      (ls : List (List ℕ))
      → kept ≤ length line
      → fed (length line) (carried ls (take kept line)) (drop at chunk)
      ≡ fed
      (length line)
      (carried_on ls (next_line chunk at line kept).ended (take (next_line chunk at line kept).kept (line_after chunk at line kept)))
      (drop (next_line chunk at line kept).at chunk)
  unfolding next_line
  step_turn ls h =
      rw (kept_now, ← drop-drop (taken_in bytes) at chunk, ← step_fed (length line) ls (take kept line) bytes fits, ← fed_join, take-append-drop)
    where
      bytes : List ℕ
      bytes = drop at chunk

      fits : length (take kept line) ≤ length line
      fits = rw length-take (omega arith)

-- The same of the line under way alone, as a loop over a chunk meets it: after a line has ended, 0 bytes of the next are kept.
module _ {whole : List ℕ} (room : ℕ) (chunk : List ℕ) (at : ℕ) (line : List ℕ) (kept : ℕ) (so_far : whole ≡ line_left room (take kept line) (drop at chunk)) where
  pub left_turn :
      {r : LineStep} {out : List ℕ} {next : ℕ}
      → length line ≡ room
      → kept ≤ room
      → r ≡ next_line chunk at line kept
      → out ≡ line_after chunk at line kept
      → next ≡ cond r.ended 0 r.kept
      → whole ≡ line_left room (take next out) (drop r.at chunk)
  left_turn {r} {out} {next} el h er eo en = so_far ∙ turn
    where
      held : kept ≤ length line
      held = omega arith

      turn : line_left room (take kept line) (drop at chunk) ≡ line_left room (take next out) (drop r.at chunk)
      turn =
          rw (← el)
          (sym (left_alone (length line) [] (take kept line) (drop at chunk))
          ∙ ap (λ c. c.line) (step_turn chunk at line kept [] held)
          ∙ rw (← er, ← eo, en) (settled (length line) [] r.ended r.kept out (drop r.at chunk)))

  pub left_done : length chunk ≤ at → take kept line ≡ whole
  unfolding line_left fed carried
  left_done h = sym (so_far ∙ rw (drop_of_length-le chunk h))
