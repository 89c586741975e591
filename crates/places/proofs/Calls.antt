-- The calls, by what their tables and texts are refused for.
use Prim.Native.Nat.{ℕ, ◌-◌, ◌≤◌, ◌<◌}
use mathlib.Core.Path.{◌≡◌, refl, sym, ◌∙◌}
use mathlib.Core.Bool.{Bool, true, false, true≢false}
use mathlib.Core.List.{List, [], ◌∷◌}
use mathlib.Core.Logic.{◌↔◌, ◌⊎◌, inl, inr, ⊎_elim}
use mathlib.Core.Option.{none}
use lib.IntN.{ℤ}
use lib.Dec.{leb}
use lib.ListN.{length}
use borrow.Author.Tests.{le-leb, leb-true}
use native.Mathlib.Nat.{le_refl}
use native.Mathlib.Omega.{arith}
use Rattle.base.specs.Scans.{among}
use Rattle.base.proofs.Tests.{and_first, and_second}
use Rattle.base.proofs.Scans.{nothing}
use Rattle.rules.specs.Limits.{longest_text}
use Rattle.rules.specs.declared.Layout.{Layout}
use Rattle.rules.specs.declared.Reading.{Reading}
use Rattle.rules.specs.declared.TimedStamp.{TimedStamp}
use Rattle.rules.specs.Answer.{Answer, answer, refuse_at, placed, unless, unless_at, and_then}
use Rattle.rules.specs.Layout.{moduli_of, offsets_of, product_of, unit_of, layout_ok}
use Rattle.rules.specs.Partitions.{Partitions, total_of, partitions_fault, partitions_ok}
use Rattle.rules.specs.Segments.{Segments, segments_fault}
use Rattle.rules.specs.Accepted.{accepted_stamps, accepted}
use Rattle.rules.specs.Text.{read_text}
use Rattle.rules.specs.Stamp.{Parsed, encode, parse_stamp, read_stamp}
use Rattle.rules.specs.Message.{text_length, accepted_message, read_message}
use Rattle.rules.specs.Print.{fitting, print_stamp}
use Rattle.rules.specs.Time.{time_of, time_in, count_at, count_in, steps_back_in, segment_of, segment_at}
use Rattle.rules.specs.StampTime.{with_time, time_of_stamp, time_of_message}
use Rattle.rules.proofs.Answers.{not_answer, unless-test, unless-rest, unless-at-none}
use Rattle.outcomes.specs.Refusals.{no_place, OnlyRefuses}
use Rattle.outcomes.proofs.Ladder.{answers, rung}
use Rattle.outcomes.proofs.Refusals.{encode_only, fitting_only, time_only, count_only}
use Rattle.places.specs.Rows.{SegmentsFaultAt}
use Rattle.places.specs.Fields.{FirstDigit, FieldPlace, surplus_digit, surplus_empty, above_limit, below_offset, large_sum}
use Rattle.places.specs.Bytes.{text_at_fault, stamp_at_fault, FirstAtFault}
use Rattle.places.specs.Calls.{
  TextPlace,
  of_byte,
  of_field,
  TwoDue,
  ThreeDue,
  RowPlaces,
  BytePlaces,
  TextPlaces,
  WithinText,
  DigitPlaces,
  TextBounds,
  GoodMessage,
  PlacesPassedOn,
}
use Rattle.places.proofs.Placed.{past_unless, past_unless_at, past_then}
use Rattle.places.proofs.Rows.{partitions_place, segments_place}
use Rattle.places.proofs.Texts.{field_number, text_placed, stamp_placed, text_five, stamp_five}

-- what follows the tables and the text refuses with these alone, and gives no place
abbrev pub NeverPlaced : {A : Type 0} → Answer A → Type 0
NeverPlaced a = OnlyRefuses no_place (10 ∷ 11 ∷ 12 ∷ 13 ∷ 14 ∷ 16 ∷ []) a

pub unplaced : {A : Type 0} {ks : List ℕ} {a : Answer A} {k i : ℕ} → OnlyRefuses no_place ks a → a ≡ refuse_at k i → ⊥
unfolding no_place
unplaced {k = k} {i = i} w h = true≢false (w (placed k i) h).place

encode_bare : (p : Partitions) (x : Parsed) → NeverPlaced (encode p x)
unfolding no_place among
encode_bare p x = encode_only refl refl refl refl p x

print_bare : (e total room : ℕ) (s : List ℕ) → NeverPlaced (unless 12 (leb e total) (fitting room s))
unfolding no_place among
print_bare e total room s = rung 12 _ refl refl (fitting_only refl refl room s)

time_bare : (unit total : ℕ) (g : Segments) (e : ℕ) → NeverPlaced (time_in unit total g e)
unfolding time_in no_place among
time_bare unit total g e = rung 12 _ refl refl (time_only refl refl unit g e (segment_of g.counts e))

count_bare : (unit total : ℕ) (g : Segments) (t : ℤ) → NeverPlaced (count_in unit total g t)
unfolding count_in no_place among
count_bare unit total g t = rung 14 _ refl refl (count_only refl refl refl refl unit total g t (segment_at g.times t))

-- layout and partitions, and then a
module _ {A : Type 0} (l : Layout) (p : Partitions) (a : Answer A) where
  two_due : (i : ℕ) → TwoDue l p i → accepted_stamps l p a ≡ refuse_at 2 i
  unfolding unless unless_at
  two_due i w = rw (w.0, (partitions_place (product_of l) p i).1 w.1)

  past_tables : {k i : ℕ} → accepted_stamps l p a ≡ refuse_at k i
      → ((k ≡ 2) × TwoDue l p i) ⊎ ((layout_ok l ≡ true) × (partitions_fault (product_of l) p ≡ none) × (a ≡ refuse_at k i))
  past_tables {k} {i} h =
      let w = past_unless 1 _ _ h in
      ⊎_elim (λ f. inl (f.0, (w.0, (partitions_place (product_of l) p i).0 f.1))) (λ r. inr (w.0, r.0, r.1))
      (past_unless_at 2 (partitions_fault (product_of l) p) a w.1)

  pub gives_two : (i : ℕ) → (a ≡ refuse_at 2 i → ⊥) → accepted_stamps l p a ≡ refuse_at 2 i ↔ TwoDue l p i
  gives_two i n = (λ h. ⊎_elim (λ f. f.1) (λ r. absurd (n r.2)) (past_tables h), two_due i)

  good_tables : layout_ok l ≡ true → partitions_fault (product_of l) p ≡ none → accepted_stamps l p a ≡ a
  unfolding unless unless_at
  good_tables h n = rw (h, n)

-- all three tables, and then an answer without places
module _ {A : Type 0} (l : Layout) (p : Partitions) (g : Segments) (a : Answer A) (n : NeverPlaced a) where
  past_segments : {k i : ℕ} → unless_at 3 (segments_fault (unit_of l) (total_of p) g) a ≡ refuse_at k i → (k ≡ 3) × SegmentsFaultAt (unit_of l) (total_of p) g i
  past_segments {k} {i} h =
      ⊎_elim (λ f. (f.0, (segments_place (unit_of l) (total_of p) g i).0 f.1)) (λ r. absurd (unplaced n r.1))
      (past_unless_at 3 (segments_fault (unit_of l) (total_of p) g) a h)

  three_due : (i : ℕ) → ThreeDue l p g i → accepted l p g a ≡ refuse_at 3 i
  unfolding accepted unless_at
  three_due i w =
      good_tables l p _ w.0 (nothing (partitions_fault (product_of l) p) w.1) ∙ rw ((segments_place (unit_of l) (total_of p) g i).1 w.2)

  pub gives_rows : (i : ℕ) → (accepted l p g a ≡ refuse_at 2 i ↔ TwoDue l p i) × (accepted l p g a ≡ refuse_at 3 i ↔ ThreeDue l p g i)
  unfolding accepted
  gives_rows i = (
    gives_two l p _ i (λ h. let e = (past_segments h).0 in omega arith),
    (λ h. ⊎_elim (λ f. absurd (omega (arith, f.0))) (λ r. (r.0, rw r.1, (past_segments r.2).1)) (past_tables l p _ h), three_due i),
  )

-- what follows a stamp's text gives no place
stamp_rest : (l : Layout) (p : Partitions) (s : List ℕ) (k i : ℕ) → and_then (parse_stamp (moduli_of l) (offsets_of l) s) (encode p) ≡ refuse_at k i
    → parse_stamp (moduli_of l) (offsets_of l) s ≡ refuse_at k i
stamp_rest l p s k i h = ⊎_elim (λ e. e) (λ w. absurd (unplaced (encode_bare p w.0) w.2)) (past_then _ (encode p) h)

text_number : {at_fault : ℕ → Bool} {ms os s : List ℕ} {start k i : ℕ} → TextPlace at_fault ms os s start k i → 5 ≤ k
text_number (of_byte i w) = omega arith
text_number (of_field k i w) = omega (arith, field_number w)

stamp_two : (l : Layout) (p : Partitions) (s : List ℕ) (i : ℕ) → read_stamp l p s ≡ refuse_at 2 i ↔ TwoDue l p i
unfolding read_stamp
stamp_two l p s i = gives_two l p _ i (λ h. absurd (omega (arith, text_number (stamp_placed _ _ s 2 i (stamp_rest l p s 2 i h)))))

pub row_places : RowPlaces
unfolding print_stamp time_of count_at steps_back_in
row_places =
    record {
      stamp = stamp_two;
      print = λ l p e room i. gives_two l p _ i (unplaced (print_bare e _ room _));
      time_of_lem = λ e l p g i. gives_rows l p g _ (time_bare _ _ g e) i;
      count_at_lem = λ t l p g i. gives_rows l p g _ (count_bare _ _ g t) i;
      steps_back_lem = λ l p g i. gives_rows l p g _ (answers _) i;
    }

pub text_places : TextPlaces
unfolding read_text read_stamp
text_places =
    record {
      text = λ l s k i h. text_placed _ _ s k i (past_unless 1 _ _ h).1;
      stamp = λ l p s k i h. ⊎_elim (λ f. inl (f.0, f.1.1)) (λ r. inr (stamp_placed _ _ s k i (stamp_rest l p s k i r.2))) (past_tables l p _ h);
    }

stamp_byte : (l : Layout) (p : Partitions) (s : List ℕ) (i : ℕ) → read_stamp l p s ≡ refuse_at 5 i
    ↔ (layout_ok l ≡ true) × (partitions_ok (product_of l) p ≡ true) × (length s ≤ longest_text) × FirstAtFault (stamp_at_fault s) s i
unfolding read_stamp and_then
stamp_byte l p s i = (
  λ h. ⊎_elim (λ f. absurd (omega (arith, f.0)))
      (λ r. let w = (stamp_five _ _ s i).0 (stamp_rest l p s 5 i r.2) in (r.0, rw r.1, w.0, w.1))
      (past_tables l p _ h),
  λ w. good_tables l p _ w.0 (nothing _ w.1) ∙ rw ((stamp_five (moduli_of l) (offsets_of l) s i).1 (w.2, w.3)),
)

text_byte : (l : Layout) (s : List ℕ) (i : ℕ) → read_text l s ≡ refuse_at 5 i ↔ (layout_ok l ≡ true) × (length s ≤ longest_text) × FirstAtFault (text_at_fault s) s i
unfolding read_text unless
text_byte l s i = (
  λ h. let w = past_unless 1 _ _ h in let v = (text_five _ _ s i).0 w.1 in (w.0, v.0, v.1),
  λ w. rw w.0 ((text_five _ _ s i).1 (w.1, w.2)),
)

pub byte_places : BytePlaces
byte_places = record { text = text_byte; stamp = stamp_byte }

-- places within the text
within : {ms os s : List ℕ} {start k i : ℕ} → i < length s → WithinText ms os s start k i
within h = (omega arith, λ e. absurd (omega arith))

field_within : {ms os s : List ℕ} {start k i : ℕ} → FieldPlace ms os s start k i → WithinText ms os s start k i
field_within (surplus_digit i w) = within w.below
field_within {s = s} (surplus_empty w) = (le_refl (length s), λ _. inr (refl, w))
field_within (above_limit k i b g w h) = within w.below
field_within (below_offset k i b g w h o) = within w.below
field_within {s = s} (large_sum w) = (le_refl (length s), λ _. inl (refl, w))

place_within : {at_fault : ℕ → Bool} {ms os s : List ℕ} {start k i : ℕ} → TextPlace at_fault ms os s start k i → WithinText ms os s start k i
place_within (of_byte i w) = within w.below
place_within (of_field k i w) = field_within w

pub text_bounds : TextBounds
text_bounds =
    record {
      text = λ l s k i h. place_within (text_places.text l s k i h);
      stamp = λ l p s k i h n. ⊎_elim (λ f. absurd (n f.0)) place_within (text_places.stamp l p s k i h);
    }

-- a field's refusal below the text's length
field_digit : {ms os s : List ℕ} {start k i : ℕ} → FieldPlace ms os s start k i → i < length s → (j : ℕ) × FirstDigit s start j i
field_digit {ms = ms} (surplus_digit i w) h = (length ms, w)
field_digit (surplus_empty w) h = absurd (omega arith)
field_digit (above_limit k i b g w v) h = (k, w)
field_digit (below_offset k i b g w v o) h = (k, w)
field_digit (large_sum w) h = absurd (omega arith)

place_digit : {at_fault : ℕ → Bool} {ms os s : List ℕ} {start k i : ℕ} → TextPlace at_fault ms os s start k i → 7 ≤ k → i < length s → (j : ℕ) × FirstDigit s start j i
place_digit (of_byte i w) n h = absurd (omega arith)
place_digit (of_field k i w) n h = field_digit w h

pub digit_places : DigitPlaces
digit_places =
    record {
      text = λ l s k i h n b. place_digit (text_places.text l s k i h) n b;
      stamp = λ l p s k i h n b. ⊎_elim (λ f. absurd (omega (arith, f.0))) (λ w. place_digit w n b) (text_places.stamp l p s k i h);
    }

-- a message before its text
module _ {A : Type 0} (m : List ℕ) (a : Answer A) where
  past_message : (k i : ℕ) → accepted_message m a ≡ refuse_at k i → GoodMessage m × (a ≡ refuse_at k i)
  unfolding accepted_message
  past_message k i h =
      let w = past_unless 21 _ _ h in
      let v = past_unless 22 _ _ w.1 in
      let u = past_unless 23 _ _ v.1 in (
        record {
          two_bytes = leb-true 2 (length m) w.0;
          some = leb-true 1 (text_length m) v.0;
          short = leb-true (text_length m) longest_text (and_first _ (leb (text_length m) (length m - 2)) u.0);
          near = leb-true (text_length m) (length m - 2) (and_second (leb (text_length m) longest_text) _ u.0);
        },
        u.1,
      )

  good_message : GoodMessage m → accepted_message m a ≡ a
  unfolding accepted_message unless
  good_message w =
      rw (
        le-leb 2 (length m) w.two_bytes,
        le-leb 1 (text_length m) w.some,
        le-leb (text_length m) longest_text w.short,
        le-leb (text_length m) (length m - 2) w.near,
      )

  message_passed : (k i : ℕ) → accepted_message m a ≡ refuse_at k i ↔ GoodMessage m × (a ≡ refuse_at k i)
  message_passed k i = (past_message k i, λ w. good_message w.0 ∙ w.1)

-- what follows a text follows its message
unless_then : {A B : Type 0} (n : ℕ) (t : Bool) (a : Answer A) (f : A → Answer B) → and_then (unless n t a) f ≡ unless n t (and_then a f)
unfolding unless and_then
unless_then n true a f = refl
unless_then n false a f = refl

message_then : {A B : Type 0} (m : List ℕ) (a : Answer A) (f : A → Answer B) → and_then (accepted_message m a) f ≡ accepted_message m (and_then a f)
unfolding accepted_message
message_then m a f = rw (unless_then 21, unless_then 22, unless_then 23)

module _ (l : Layout) (p : Partitions) (g : Segments) (s : List ℕ) where
  abbrev time : Reading → Answer TimedStamp
  time r = with_time r.count (time_of l p g r.count)

  -- the tables of a stamp that is read are good
  read_tables : (r : Reading) → read_stamp l p s ≡ answer r → (layout_ok l ≡ true) × (partitions_fault (product_of l) p ≡ none)
  unfolding read_stamp
  read_tables r h = (unless-test 1 _ _ r h, unless-at-none 2 _ _ r (unless-rest 1 _ _ r h))

  timed : (r : Reading) (k i : ℕ) → read_stamp l p s ≡ answer r → time r ≡ refuse_at k i → (k ≡ 3) × SegmentsFaultAt (unit_of l) (total_of p) g i
  unfolding with_time time_of accepted
  timed r k i e h =
      ⊎_elim
      (λ t. past_segments l p g _ (time_bare _ _ g r.count) (sym (good_tables l p _ (read_tables r e).0 (read_tables r e).1) ∙ t))
      (λ w. absurd (not_answer (sym w.2)))
      (past_then _ _ h)

  three_timed : (r : Reading) (i : ℕ) → read_stamp l p s ≡ answer r → SegmentsFaultAt (unit_of l) (total_of p) g i → time r ≡ refuse_at 3 i
  unfolding with_time and_then time_of
  three_timed r i e w =
      rw (three_due l p g _ (time_bare (unit_of l) (total_of p) g r.count) i ((read_tables r e).0, rw (read_tables r e).1, w))

  stamp_passed : (k i : ℕ) → time_of_stamp l p g s ≡ refuse_at k i
      ↔ (read_stamp l p s ≡ refuse_at k i) ⊎ ((r : Reading) × (read_stamp l p s ≡ answer r) × (k ≡ 3) × SegmentsFaultAt (unit_of l) (total_of p) g i)
  unfolding time_of_stamp and_then
  stamp_passed k i = (
    λ h. ⊎_elim inl (λ w. let t = timed w.0 k i w.1 w.2 in inr (w.0, w.1, t.0, t.1)) (past_then (read_stamp l p s) time h),
    ⊎_elim (λ h. rw h) (λ w. rw (w.1, w.2) (three_timed w.0 i w.1 w.3)),
  )

pub places_passed_on : PlacesPassedOn
unfolding read_message time_of_message time_of_stamp
places_passed_on =
    record {
      message = λ l p m k i. message_passed m _ k i;
      time_of_stamp_lem = stamp_passed;
      time_of_message_lem = λ l p g m k i. rw (message_then m) (message_passed m _ k i);
    }
