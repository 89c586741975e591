-- A text and a stamp as they are parsed: every refusal with a place, and 5 in both directions.
use Prim.Native.Nat.{ℕ, ◌+◌, ◌-◌, ◌≤◌, ◌<◌}
use mathlib.Core.Path.{◌≡◌, refl, sym, ◌∙◌}
use mathlib.Core.Bool.{Bool, true, false, not, cond}
use mathlib.Core.List.{List}
use mathlib.Core.Logic.{◌↔◌}
use mathlib.Core.Option.{Option, none, some, some-injective}
use lib.Dec.{leb, ltb}
use lib.ListN.{length, get_or, take, drop}
use borrow.Author.Tests.{le-leb, leb-true, lt-ltb, le-ltb, not-false}
use native.Mathlib.Omega.{arith}
use Rattle.base.specs.Scans.{first_below}
use Rattle.base.proofs.Scans.{first_is, first_found, first_missing}
use Rattle.rules.specs.Limits.{longest_text}
use Rattle.rules.specs.Answer.{Answer, refuse_at, unless, unless_at, and_then}
use Rattle.rules.specs.Text.{is_allowed, not_allowed_from, bytes_count, parse_text}
use Rattle.rules.specs.Stamp.{slash_in, front_fault, parsed_at, parse_stamp}
use Rattle.places.specs.Bytes.{text_at_fault, stamp_at_fault, FirstAtFault}
use Rattle.places.specs.Fields.{FieldPlace, surplus_digit, surplus_empty, above_limit, below_offset, large_sum}
use Rattle.places.specs.Calls.{behind, clock_start, TextPlace, of_byte, of_field}
use Rattle.places.proofs.Placed.{Placed, past_unless, of_answer, of_unless, of_unless_at, of_then}
use Rattle.places.proofs.Bytes.{fault_or, five_at, clear_from, text_first, stamp_first}
use Rattle.places.proofs.Fields.{fields_by_bytes}
use Rattle.places.proofs.FieldPlaces.{fields_placed}

-- the first byte at fault, as a scan and as a record
found_fault : (p : ℕ → Bool) (s : List ℕ) (i : ℕ) → first_below p (length s) ≡ some i → FirstAtFault p s i
found_fault p s i e = let w = first_found p (length s) i e in record { below = w.below; here = w.holds; before = w.before }

fault_found : (p : ℕ → Bool) (s : List ℕ) (i : ℕ) → FirstAtFault p s i → first_below p (length s) ≡ some i
fault_found p s i w = first_is p (length s) i (record { below = w.below; holds = w.here; before = w.before })

-- a clock text in which nothing is found has allowed bytes
all_allowed : (s : List ℕ) (start : ℕ) → start ≤ length s → not_allowed_from start (drop start s) ≡ none
    → (i : ℕ) → start ≤ i → i < length s → is_allowed (get_or s i 0) ≡ true
all_allowed s start a e i b h =
    not-false _ ((sym (rw (le-ltb i start b))) ∙ first_missing bad (length s) i (sym scan ∙ e) h)
  where
    bad : ℕ → Bool
    bad j = cond (ltb j start) false (not (is_allowed (get_or s j 0)))

    scan : not_allowed_from start (drop start s) ≡ first_below bad (length s)
    scan = clear_from s bad (length s - start) start (omega arith) (λ j x. rw (le-ltb j start x)) (λ j x. rw (lt-ltb j start x))

module _ (at_fault : ℕ → Bool) (ms os s : List ℕ) (start : ℕ) (a : start ≤ length s) where
  bytes_placed : ((i : ℕ) → not_allowed_from start (drop start s) ≡ some i → FirstAtFault at_fault s i)
      → Placed (TextPlace at_fault ms os s start) (bytes_count ms os s start)
  unfolding bytes_count
  bytes_placed five =
      of_unless_at (TextPlace at_fault ms os s start) 5 _ _ (λ i h. of_byte i (five i h))
      (λ n. rw (fields_by_bytes s start a (all_allowed s start a n)) (λ k i h. of_field k i (fields_placed ms os s start a k i h)))

pub text_placed : (ms os s : List ℕ) → Placed (TextPlace (text_at_fault s) ms os s 0) (parse_text ms os s)
unfolding parse_text
text_placed ms os s =
    of_unless (TextPlace (text_at_fault s) ms os s 0) 4 _ _
    (λ _. bytes_placed (text_at_fault s) ms os s 0 (omega arith) (λ i h. found_fault (text_at_fault s) s i (sym (text_first s) ∙ h)))

module _ (ms os s : List ℕ) where
  abbrev Place : ℕ → ℕ → ℕ → Type 0
  Place start k i = TextPlace (stamp_at_fault s) ms os s start k i

  first_by_scan : (i : ℕ) → five_at s (slash_in s) ≡ some i → FirstAtFault (stamp_at_fault s) s i
  first_by_scan i h = found_fault (stamp_at_fault s) s i (sym (stamp_first s) ∙ h)

  parsed_placed : (o : Option ℕ) → slash_in s ≡ o → Placed (Place (behind o)) (parsed_at ms os s o)
  unfolding parsed_at slash_in
  parsed_placed none e =
      of_then (Place 0) _ _
      (bytes_placed (stamp_at_fault s) ms os s 0 (omega arith) (λ i h. first_by_scan i (rw e h)))
      (λ x _. of_answer (Place 0) _)
  parsed_placed (some slash) e =
      of_unless_at (Place (slash + 1)) 5 _ _ (λ i h. of_byte i (first_by_scan i (rw (e, h))))
      (λ n. of_then (Place (slash + 1)) _ _
      (bytes_placed (stamp_at_fault s) ms os s (slash + 1) (omega (arith, (first_found _ (length s) slash e).below)) (λ i h. first_by_scan i (rw (e, n) h)))
      (λ x _. of_answer (Place (slash + 1)) _))

  pub stamp_placed : Placed (Place (clock_start s)) (parse_stamp ms os s)
  unfolding parse_stamp
  stamp_placed = of_unless (Place (clock_start s)) 4 _ _ (λ _. parsed_placed (slash_in s) refl)

-- the numbers of the fields' refusals
pub field_number : {ms os s : List ℕ} {start k i : ℕ} → FieldPlace ms os s start k i → 7 ≤ k
field_number (surplus_digit i w) = omega arith
field_number (surplus_empty w) = omega arith
field_number (above_limit k i b g w h) = omega arith
field_number (below_offset k i b g w h o) = omega arith
field_number (large_sum w) = omega arith

five_only : {at_fault : ℕ → Bool} {ms os s : List ℕ} {start k i : ℕ} → TextPlace at_fault ms os s start k i → k ≡ 5 → FirstAtFault at_fault s i
five_only (of_byte i w) e = w
five_only (of_field k i w) e = absurd (omega (arith, field_number w))

-- 4 comes before
short : {A : Type 0} {k i : ℕ} (s : List ℕ) (a : Answer A) → unless 4 (leb (length s) longest_text) a ≡ refuse_at k i → length s ≤ longest_text
short s a h = leb-true (length s) longest_text (past_unless 4 _ a h).0

pub text_five : (ms os s : List ℕ) (i : ℕ) → parse_text ms os s ≡ refuse_at 5 i ↔ (length s ≤ longest_text) × FirstAtFault (text_at_fault s) s i
unfolding parse_text bytes_count unless unless_at
text_five ms os s i = (
  λ h. (short s _ h, five_only (text_placed ms os s 5 i h) refl),
  λ w. rw (le-leb (length s) longest_text w.0, text_first s ∙ fault_found (text_at_fault s) s i w.1),
)

five_parsed : (ms os s : List ℕ) (i : ℕ) (o : Option ℕ) → five_at s o ≡ some i → parsed_at ms os s o ≡ refuse_at 5 i
unfolding parsed_at bytes_count unless_at and_then
five_parsed ms os s i none h = rw h
five_parsed ms os s i (some slash) h = by_front (front_fault (take slash s)) refl h
  where
    by_front : (f : Option ℕ) → front_fault (take slash s) ≡ f → fault_or f (not_allowed_from (slash + 1) (drop (slash + 1) s)) ≡ some i → parsed_at ms os s (some slash) ≡ refuse_at 5 i
    by_front none e h = rw (e, h)
    by_front (some j) e h = rw (e, some-injective j i h)

pub stamp_five : (ms os s : List ℕ) (i : ℕ) → parse_stamp ms os s ≡ refuse_at 5 i ↔ (length s ≤ longest_text) × FirstAtFault (stamp_at_fault s) s i
unfolding parse_stamp unless
stamp_five ms os s i = (
  λ h. (short s _ h, five_only (stamp_placed ms os s 5 i h) refl),
  λ w. rw (le-leb (length s) longest_text w.0) (five_parsed ms os s i (slash_in s) (stamp_first s ∙ fault_found (stamp_at_fault s) s i w.1)),
)
