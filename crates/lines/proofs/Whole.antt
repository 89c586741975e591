-- Theorems on whole inputs.
--     lines_split       the first line is what stands before the first byte 10, or the rest of the input
--     fed_join, cuts    what is carried after an input is a function of its bytes, wherever it was cut
--     whole             with the end of input it gives the lines, each as the line buffer keeps it
--     too_long, enough  with room for a byte more than the longest line, what is kept of a line tells whether it is too long,
--                       and otherwise is the line
use Prim.Native.Nat.{ℕ, zero, suc, ◌≤◌, ◌<◌, min}
use mathlib.Core.Path.{◌≡◌, refl, sym, ap, ◌∙◌}
use mathlib.Core.Bool.{Bool, true, false, cond}
use mathlib.Core.List.{List, [], ◌∷◌, ◌++◌, map, flatten, append-nil, append_assoc}
use lib.Dec.{eqb, ltb}
use lib.ListN.{length, take, drop, length-take}
use lib.Seq.{take_all}
use borrow.Author.Tests.{lt-ltb, le-ltb, ltb-true, ltb-false}
use native.Mathlib.Nat.{suc-add}
use native.Mathlib.Omega.{arith}
use Rattle.base.proofs.Tests.{by_test}
use Rattle.lines.specs.Lines.{line_end, with_byte, lines_of, room_for, kept_of}
use Rattle.lines.specs.Steps.{Carried, carried, with_next, fed, fed_chunks, last_line, all_lines, line_in, ends_in, taken_in}

-- a byte in front, as it is byte 10 or another
end_byte : (b : ℕ) (ls : List (List ℕ)) → eqb b line_end ≡ true → with_byte b ls ≡ [] ∷ ls
unfolding with_byte
end_byte b [] t = rw t
end_byte b (l ∷ ls) t = rw t

pub fed_join : (room : ℕ) (c : Carried) (s t : List ℕ) → fed room c (s ++ t) ≡ fed room (fed room c s) t
unfolding fed
fed_join room c [] t = refl
fed_join room c (b ∷ s) t = fed_join room (with_next room c b) s t

pub cuts : (room : ℕ) (c : Carried) (ss : List (List ℕ)) → fed_chunks room c ss ≡ fed room c (flatten ss)
unfolding fed fed_chunks flatten
cuts room c [] = refl
cuts room c (s ∷ ss) = cuts room (fed room c s) ss ∙ sym (fed_join room c s (flatten ss))

take_again : (n : ℕ) (l x : List ℕ) → take n (take n l ++ x) ≡ take n (l ++ x)
take_again zero l x = refl
take_again (suc n) [] x = refl
take_again (suc n) (b ∷ l) x = rw (take_again n l x)

pub kept_again : (room : ℕ) (l x : List ℕ) → kept_of room (kept_of room l ++ x) ≡ kept_of room (l ++ x)
unfolding kept_of
kept_again room l x = take_again room l x

-- the line l under way, before what follows it
began : List ℕ → List (List ℕ) → List (List ℕ)
began l [] = last_line l
began l (m ∷ ms) = (l ++ m) ∷ ms

began_nothing : (ls : List (List ℕ)) → began [] ls ≡ ls
unfolding last_line began
began_nothing [] = refl
began_nothing (m ∷ ms) = refl

last_more : (l : List ℕ) (b : ℕ) → last_line (l ++ (b ∷ [])) ≡ (l ++ (b ∷ [])) ∷ []
unfolding last_line
last_more [] b = refl
last_more (a ∷ l) b = refl

began_more : (l : List ℕ) (b : ℕ) (ls : List (List ℕ)) → eqb b line_end ≡ false → began l (with_byte b ls) ≡ began (l ++ (b ∷ [])) ls
unfolding with_byte began
began_more l b [] f = rw f (sym (last_more l b))
began_more l b (m ∷ ms) f = rw (f, append_assoc)

-- the next byte, as it is byte 10 or another
pub next_end :
    (room : ℕ) (ls : List (List ℕ)) (l : List ℕ) (b : ℕ)
    → eqb b line_end ≡ true
    → with_next room (carried ls l) b ≡ carried (ls ++ (l ∷ [])) []
unfolding with_next carried
next_end room ls l b t = rw t

pub next_byte :
    (room : ℕ) (ls : List (List ℕ)) (l : List ℕ) (b : ℕ)
    → eqb b line_end ≡ false
    → with_next room (carried ls l) b ≡ carried ls (kept_of room (l ++ (b ∷ [])))
unfolding with_next carried
next_byte room ls l b f = rw f

-- a line buffer with room for a byte keeps one of a line that has one
last_kept : (room : ℕ) (l : List ℕ) → 0 < room → map (kept_of room) (last_line l) ≡ last_line (kept_of room l)
unfolding last_line kept_of
last_kept zero l h = absurd (none h)
  where
    none : 0 < 0 → ⊥
    none e = omega arith
last_kept (suc room) [] h = refl
last_kept (suc room) (b ∷ l) h = refl

module _ (room : ℕ) (some : 0 < room) where
  all_end : (ls : List (List ℕ)) (l : List ℕ) → all_lines (carried ls (kept_of room l)) ≡ ls ++ map (kept_of room) (last_line l)
  unfolding all_lines carried
  all_end ls l = rw (last_kept room l some)

  none_kept : kept_of room [] ≡ []
  unfolding kept_of
  none_kept = take_all room [] (omega arith)

  line_ends :
      (ls : List (List ℕ)) (k s : List ℕ)
      → all_lines (fed room (carried (ls ++ (k ∷ [])) (kept_of room [])) s) ≡ (ls ++ (k ∷ [])) ++ map (kept_of room) (began [] (lines_of s))
      → all_lines (fed room (carried (ls ++ (k ∷ [])) []) s) ≡ ls ++ (k ∷ map (kept_of room) (lines_of s))
  line_ends ls k s e = rw none_kept at e ∙ rw (began_nothing, append_assoc)

  whole_from :
      (ls : List (List ℕ)) (l s : List ℕ) → all_lines (fed room (carried ls (kept_of room l)) s) ≡ ls ++ map (kept_of room) (began l (lines_of s))
  unfolding fed lines_of began
  whole_from ls l [] = all_end ls l
  whole_from ls l (b ∷ s) =
      by_test (eqb b line_end)
      (λ t. rw (next_end room ls (kept_of room l) b t, end_byte b (lines_of s) t, append-nil)
      (line_ends ls (kept_of room l) s (whole_from (ls ++ (kept_of room l ∷ [])) [] s)))
      (λ f. rw (next_byte room ls (kept_of room l) b f, kept_again room l (b ∷ []), began_more l b (lines_of s) f) (whole_from ls (l ++ (b ∷ [])) s))

  pub whole : (s : List ℕ) → all_lines (fed room (carried [] []) s) ≡ map (kept_of room) (lines_of s)
  whole s = rw none_kept at (whole_from [] [] s) ∙ rw began_nothing

  pub whole_cut : (ss : List (List ℕ)) → all_lines (fed_chunks room (carried [] []) ss) ≡ map (kept_of room) (lines_of (flatten ss))
  whole_cut ss = rw (cuts room (carried [] []) ss) (whole (flatten ss))

-- a line with one byte more in front
longer_first : (b : ℕ) (bs : List ℕ) (e : Bool) (l : List ℕ) (ls : List (List ℕ)) → eqb b line_end ≡ false → with_byte b (cond e (l ∷ ls) (last_line bs)) ≡ cond e ((b ∷ l) ∷ ls) ((b ∷ bs) ∷ [])
unfolding with_byte last_line
longer_first b bs true l ls f = rw f
longer_first b [] false l ls f = rw f
longer_first b (a ∷ bs) false l ls f = rw f

-- "lines (up to byte 10 or the end of input)"
pub lines_split : (bs : List ℕ) → lines_of bs ≡ cond (ends_in bs) (line_in bs ∷ lines_of (drop (taken_in bs) bs)) (last_line bs)
unfolding lines_of taken_in line_in ends_in last_line
lines_split [] = refl
lines_split (b ∷ bs) =
    by_test (eqb b line_end)
    (λ t. rw t (end_byte b (lines_of bs) t))
    (λ f. rw (f, suc-add) (ap (with_byte b) (lines_split bs) ∙ longer_first b bs (ends_in bs) (line_in bs) (lines_of (drop (taken_in bs) bs)) f))

pub kept_all : (room : ℕ) (l : List ℕ) → length l ≤ room → kept_of room l ≡ l
unfolding kept_of
kept_all room l h = take_all room l h

pub kept_fits : (room : ℕ) (l : List ℕ) → length (kept_of room l) ≤ room
unfolding kept_of
kept_fits room l = rw length-take (omega arith)

module _ (longest : ℕ) where
  pub too_long : (l : List ℕ) → ltb longest (length (kept_of (room_for longest) l)) ≡ ltb longest (length l)
  unfolding kept_of
  too_long l =
      by_test (ltb longest (length l))
      (λ t. rw (t, length-take) (over (ltb-true _ _ t)))
      (λ f. rw (f, length-take) (within (ltb-false _ _ f)))
    where
      over : longest < length l → ltb longest (min (room_for longest) (length l)) ≡ true
      over h = lt-ltb longest (min (room_for longest) (length l)) (omega arith)

      within : length l ≤ longest → ltb longest (min (room_for longest) (length l)) ≡ false
      within h = le-ltb longest (min (room_for longest) (length l)) (omega arith)

  -- A question with one answer for every line that is too long has, of what is kept of a line, the answer of the line.
  pub enough :
      {A : Type 0} (f : List ℕ → A) (long : A)
      → ((l : List ℕ) → longest < length l → f l ≡ long)
      → (l : List ℕ)
      → f (kept_of (room_for longest) l) ≡ f l
  enough f long h l =
      by_test (ltb longest (length l))
      (λ t. h (kept_of (room_for longest) l) (ltb-true _ _ (too_long l ∙ t)) ∙ sym (h l (ltb-true _ _ t)))
      (λ t. ap f (all (ltb-false _ _ t)))
    where
      all : length l ≤ longest → kept_of (room_for longest) l ≡ l
      all b = kept_all (room_for longest) l (omega arith)
