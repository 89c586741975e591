-- A 5 is given at the first byte at fault.
use Prim.Native.Nat.{ℕ, zero, suc, ◌+◌, ◌-◌, ◌≤◌, ◌<◌}
use mathlib.Core.Path.{◌≡◌, refl, sym, subst, ◌∙◌}
use mathlib.Core.Bool.{Bool, true, false, not, ◌||◌}
use mathlib.Core.List.{List}
use mathlib.Core.Option.{Option, none, some}
use lib.ListN.{length, get_or, take, drop, drop_of_length-le, length-take}
use lib.Seq.{get_or-take}
use borrow.Author.Tests.{lt-ltb, le-ltb, eq-eqb, ne_eqb, not-true, not-false}
use native.Mathlib.Nat.{le_refl}
use native.Mathlib.Omega.{arith}
use native.Mathlib.Numerals.{add-one}
use Rattle.base.specs.Scans.{first_below, some_below}
use Rattle.base.proofs.Lists.{drop_next}
use Rattle.base.proofs.Tests.{by_test, or_first, or_only_first}
use Rattle.base.proofs.Scans.{first_is, first_none, first_found, some_at, some_next}
use Rattle.rules.specs.Answer.{fails_at}
use Rattle.rules.specs.Text.{Before, edge, number, gap, is_digit, is_blank, is_allowed, after, after_blank, not_allowed_from}
use Rattle.rules.specs.Stamp.{slash_in, stands_in_front, has_number, front_fault_from, front_fault}
use Rattle.places.proofs.Below.{below_next}
use Rattle.places.proofs.ByteKinds.{blank_no_digit, blank_no_mark}
use Rattle.places.specs.Bytes.{text_at_fault, digit_before, second_number, front_at_fault, at_fault_by, stamp_at_fault}

not_of_true : {b : Bool} → b ≡ true → not b ≡ false
not_of_true h = rw h

not_of_false : {b : Bool} → b ≡ false → not b ≡ true
not_of_false h = rw h

-- the scan of clock text from the place j on, where no byte before it is at fault
pub clear_from :
    (s : List ℕ) (p : ℕ → Bool) (n j : ℕ) → j + n ≡ length s → ((i : ℕ) → j ≤ i → p i ≡ not (is_allowed (get_or s i 0)))
    → ((i : ℕ) → i < j → p i ≡ false) → not_allowed_from j (drop j s) ≡ first_below p (length s)
unfolding not_allowed_from
clear_from s p zero j e q f =
    rw (drop_of_length-le s {i = j} (omega arith)) (sym (first_none p (length s) (λ i h. f i (omega arith))))
clear_from s p (suc n) j e q f =
    by_test (is_allowed (get_or s j 0))
    (λ t. rw (drop_next s j 0 (omega arith), t)
    (clear_from s p n (j + 1) (omega arith) (λ i h. q i (omega arith)) (below_next (λ i. p i ≡ false) j f (q j (le_refl j) ∙ not_of_true t))))
    (λ b. rw (drop_next s j 0 (omega arith), b)
    (sym (first_is p (length s) j (record { below = omega arith; holds = q j (le_refl j) ∙ not_of_false b; before = f }))))

-- the test of a byte that no second number begins at, and of one where a digit would begin it
no_second : (b d : Bool) → (b || d) ≡ not (not (b || d) || false)
no_second true d = refl
no_second false true = refl
no_second false false = refl

second : (b d : Bool) → (b ≡ true → d ≡ false) → b ≡ not (not (b || d) || d)
second true d f = rw (f refl)
second false true f = refl
second false false f = refl

-- what the scan of a front part knows before the byte at j
module _ (s : List ℕ) where
  abbrev FrontStands : ℕ → Before → Type 0
  FrontStands j edge = digit_before s j ≡ false
  FrontStands j number = (digit_before s j ≡ true) × (is_digit (get_or s (j - 1) 0) ≡ true)
  FrontStands j gap = (digit_before s j ≡ true) × (is_digit (get_or s (j - 1) 0) ≡ false)

  stands_number : (j : ℕ) (w : Before) → FrontStands j w → has_number w ≡ digit_before s j
  stands_number j edge h = sym h
  stands_number j number h = sym h.0
  stands_number j gap h = sym h.0

  -- a byte can stand where it is not at fault
  stands_test : (j : ℕ) (w : Before) → FrontStands j w → stands_in_front w (get_or s j 0) ≡ not (front_at_fault s j)
  unfolding stands_in_front front_at_fault second_number
  stands_test j edge h = rw h (no_second (is_blank (get_or s j 0)) (is_digit (get_or s j 0)))
  stands_test j number h = rw (h.0, h.1) (no_second (is_blank (get_or s j 0)) (is_digit (get_or s j 0)))
  stands_test j gap h =
      rw (h.0, h.1) (second (is_blank (get_or s j 0)) (is_digit (get_or s j 0)) (blank_no_digit (get_or s j 0)))

  stands_blank : (w : Before) (b : ℕ) → is_digit b ≡ false → stands_in_front w b ≡ true → is_blank b ≡ true
  unfolding stands_in_front
  stands_blank edge b n t = or_only_first _ _ t n
  stands_blank number b n t = or_only_first _ _ t n
  stands_blank gap b n t = t

  digit_next : (j : ℕ) → digit_before s j ≡ true → digit_before s (j + 1) ≡ true
  unfolding digit_before some_below
  digit_next j h = rw add-one (or_first _ h)

  stands_next : (j : ℕ) (w : Before) → FrontStands j w → stands_in_front w (get_or s j 0) ≡ true → FrontStands (j + 1) (after w (get_or s j 0))
  unfolding digit_before after after_blank
  stands_next j w h t =
      by_test (is_digit (get_or s j 0))
      (λ d. rw d (some_at _ (j + 1) j (omega arith) d, rw here d))
      (λ n. rw (n, blank_no_mark _ (stands_blank w _ n t)) (went w h n))
    where
      here : j + 1 - 1 ≡ j
      here = omega arith

      went : (w : Before) → FrontStands j w → is_digit (get_or s j 0) ≡ false → FrontStands (j + 1) (after_blank w)
      went edge h n = some_next _ j h n
      went number h n = (digit_next j h.0, rw here n)
      went gap h n = (digit_next j h.0, rw here n)

-- the first of two faults
abbrev pub fault_or : Option ℕ → Option ℕ → Option ℕ
fault_or (some i) o = some i
fault_or none o = o

-- a stamp whose first `/` stands at slash
module _ (s : List ℕ) (slash : ℕ) (b : slash < length s) where
  abbrev at_fault : ℕ → Bool
  at_fault i = at_fault_by s (some slash) i

  in-front : (i : ℕ) → i < slash → at_fault i ≡ front_at_fault s i
  unfolding at_fault_by
  in-front i h = rw (lt-ltb i slash h)

  at_slash : at_fault slash ≡ not (digit_before s slash)
  unfolding at_fault_by
  at_slash = rw (le-ltb slash slash (le_refl slash), eq-eqb slash slash refl)

  behind : (i : ℕ) → slash + 1 ≤ i → at_fault i ≡ not (is_allowed (get_or s i 0))
  unfolding at_fault_by text_at_fault
  behind i h = rw (le-ltb i slash (omega arith), ne_eqb i slash (λ e. absurd (omega arith)))

  behind_slash : ((i : ℕ) → i < slash + 1 → at_fault i ≡ false) → not_allowed_from (slash + 1) (drop (slash + 1) s) ≡ first_below at_fault (length s)
  behind_slash f = clear_from s at_fault (length s - (slash + 1)) (slash + 1) (omega arith) behind f

  -- the `/` itself, and then the clock text
  front_end : (w : Before) → FrontStands s slash w → ((i : ℕ) → i < slash → at_fault i ≡ false)
      → fault_or (fails_at slash (has_number w)) (not_allowed_from (slash + 1) (drop (slash + 1) s)) ≡ first_below at_fault (length s)
  unfolding fails_at
  front_end w h f =
      by_test (has_number w)
      (λ t. rw t (behind_slash (below_next (λ i. at_fault i ≡ false) slash f (at_slash ∙ not_of_true (sym (stands_number s slash w h) ∙ t)))))
      (λ n. rw n
      (sym (first_is at_fault (length s) slash
      (record { below = b; holds = at_slash ∙ not_of_false (sym (stands_number s slash w h) ∙ n); before = f }))))

  -- the rest of the front part from the place j on, its `/` and the clock text
  front_from : (n j : ℕ) (w : Before) → j + n ≡ slash → FrontStands s j w → ((i : ℕ) → i < j → at_fault i ≡ false)
      → fault_or (front_fault_from w j (drop j (take slash s))) (not_allowed_from (slash + 1) (drop (slash + 1) s)) ≡ first_below at_fault (length s)
  unfolding front_fault_from
  front_from zero j w e h f =
      let same : j ≡ slash = omega arith in
      rw (drop_of_length-le (take slash s) {i = j} (omega (arith, length-take slash s)), same) (front_end w (subst (λ k. FrontStands s k w) same h) (λ i l. f i (omega arith)))
  front_from (suc n) j w e h f =
      by_test (stands_in_front w (get_or s j 0))
      (λ t. rw (drop_next (take slash s) j 0 (omega (arith, length-take slash s)), get_or-take slash s j 0 (omega arith), t)
      (front_from n (j + 1) (after w (get_or s j 0)) (omega arith) (stands_next s j w h t) (below_next (λ i. at_fault i ≡ false) j f (in-front j (omega arith) ∙ not-true _ (sym (stands_test s j w h) ∙ t)))))
      (λ n. rw (drop_next (take slash s) j 0 (omega (arith, length-take slash s)), get_or-take slash s j 0 (omega arith), n)
      (sym (first_is at_fault (length s) j
      (record { below = omega arith; holds = in-front j (omega arith) ∙ not-false _ (sym (stands_test s j w h) ∙ n); before = f }))))

-- where a 5 is found, by where the first `/` stands
abbrev pub five_at : List ℕ → Option ℕ → Option ℕ
five_at s none = not_allowed_from 0 (drop 0 s)
five_at s (some slash) = fault_or (front_fault (take slash s)) (not_allowed_from (slash + 1) (drop (slash + 1) s))

pub text_first : (s : List ℕ) → not_allowed_from 0 (drop 0 s) ≡ first_below (text_at_fault s) (length s)
unfolding text_at_fault
text_first s = clear_from s (text_at_fault s) (length s) 0 (omega arith) (λ i h. refl) (λ i h. absurd (omega arith))

first_by : (s : List ℕ) (o : Option ℕ) → slash_in s ≡ o → five_at s o ≡ first_below (at_fault_by s o) (length s)
unfolding slash_in at_fault_by digit_before some_below
first_by s none e = text_first s
first_by s (some slash) e = front_from s slash (first_found _ _ slash e).below slash 0 edge (omega arith) refl (λ i h. absurd (omega arith))

pub stamp_first : (s : List ℕ) → five_at s (slash_in s) ≡ first_below (stamp_at_fault s) (length s)
unfolding stamp_at_fault
stamp_first s = first_by s (slash_in s) refl
