-- Request 3 of the calls: each refusal with a place, and what stands at the place.
use Rattle.std.specs.Prelude.{ℕ, ◌+◌, ◌-◌, ◌≤◌, ◌<◌, ◌≡◌, Bool, true, List, ◌↔◌, ◌⊎◌, ℤ, length}
use Rattle.std.proofs.Math.Option.{Option, none, some}
use Rattle.rules.specs.Limits.{longest_text}
use Rattle.rules.specs.declared.Layout.{Layout}
use Rattle.rules.specs.declared.Reading.{Reading}
use Rattle.rules.specs.Answer.{Answer, answer, refuse_at}
use Rattle.rules.specs.Layout.{moduli_of, offsets_of, product_of, unit_of, layout_ok}
use Rattle.rules.specs.Partitions.{Partitions, total_of, partitions_ok}
use Rattle.rules.specs.Segments.{Segments}
use Rattle.rules.specs.Text.{read_text}
use Rattle.rules.specs.Stamp.{slash_in, read_stamp}
use Rattle.rules.specs.Message.{text_length, text_in, read_message}
use Rattle.rules.specs.Print.{print_stamp}
use Rattle.rules.specs.Time.{time_of, count_at, steps_back_in}
use Rattle.rules.specs.StampTime.{time_of_stamp, time_of_message}
use Rattle.places.specs.Rows.{PartitionsFaultAt, SegmentsFaultAt}
use Rattle.places.specs.Bytes.{text_at_fault, stamp_at_fault, FirstAtFault}
use Rattle.places.specs.Fields.{FirstDigit, FieldPlace, EmptySurplus, LargeSum}

-- where the clock text of a stamp begins: behind its first `/`
abbrev pub behind : Option ℕ → ℕ
behind none = 0
behind (some slash) = slash + 1

abbrev pub clock_start : List ℕ → ℕ
clock_start s = behind (slash_in s)

-- What a text is refused for, and where: 5 at its first byte at fault, and its fields.
pub data TextPlace (at_fault : ℕ → Bool) (ms os s : List ℕ) (start : ℕ) : ℕ → ℕ → Type 0 where
  of_byte : (i : ℕ) → FirstAtFault at_fault s i → TextPlace at_fault ms os s start 5 i
  of_field : (k i : ℕ) → FieldPlace ms os s start k i → TextPlace at_fault ms os s start k i

-- 2 is due at i: the layout is good, and the fault of the partitions is found at i
abbrev pub TwoDue : Layout → Partitions → ℕ → Type 0
TwoDue l p i = (layout_ok l ≡ true) × PartitionsFaultAt (product_of l) p i

-- 3 is due at i: layout and partitions are good
abbrev pub ThreeDue : Layout → Partitions → Segments → ℕ → Type 0
ThreeDue l p g i = (layout_ok l ≡ true) × (partitions_ok (product_of l) p ≡ true) × SegmentsFaultAt (unit_of l) (total_of p) g i

-- a call on all three tables gives 2 and 3 exactly where they are due
abbrev pub GivesRows : {A : Type 0} → (Layout → Partitions → Segments → Answer A) → Type 0
GivesRows call =
    (l : Layout) (p : Partitions) (g : Segments) (i : ℕ)
    → (call l p g ≡ refuse_at 2 i ↔ TwoDue l p i) × (call l p g ≡ refuse_at 3 i ↔ ThreeDue l p g i)

-- 2 and 3 in both directions
pub record RowPlaces : Type 0 where
  pub stamp : (l : Layout) (p : Partitions) (s : List ℕ) (i : ℕ) → read_stamp l p s ≡ refuse_at 2 i ↔ TwoDue l p i
  pub print : (l : Layout) (p : Partitions) (e room i : ℕ) → print_stamp l p e room ≡ refuse_at 2 i ↔ TwoDue l p i
  pub time_of_lem : (e : ℕ) → GivesRows (λ l p g. time_of l p g e)
  pub count_at_lem : (t : ℤ) → GivesRows (λ l p g. count_at l p g t)
  pub steps_back_lem : GivesRows steps_back_in

-- 5 in both directions: given at i exactly where no earlier refusal is due and byte i is the first at fault
pub record BytePlaces : Type 0 where
  pub text :
      (l : Layout) (s : List ℕ) (i : ℕ)
      → read_text l s ≡ refuse_at 5 i ↔ (layout_ok l ≡ true) × (length s ≤ longest_text) × FirstAtFault (text_at_fault s) s i
  pub stamp :
      (l : Layout) (p : Partitions) (s : List ℕ) (i : ℕ)
      → read_stamp l p s ≡ refuse_at 5 i
      ↔ (layout_ok l ≡ true) × (partitions_ok (product_of l) p ≡ true) × (length s ≤ longest_text) × FirstAtFault (stamp_at_fault s) s i

-- Every refusal of a text or a stamp that has a place, and what is found there; a stamp's 2 is of its partitions.
pub record TextPlaces : Type 0 where
  pub text : (l : Layout) (s : List ℕ) (k i : ℕ) → read_text l s ≡ refuse_at k i → TextPlace (text_at_fault s) (moduli_of l) (offsets_of l) s 0 k i
  pub stamp :
      (l : Layout) (p : Partitions) (s : List ℕ) (k i : ℕ) → read_stamp l p s ≡ refuse_at k i
      → ((k ≡ 2) × PartitionsFaultAt (product_of l) p i) ⊎ TextPlace (stamp_at_fault s) (moduli_of l) (offsets_of l) s (clock_start s) k i

-- A 7, 8 or 9 of a field, which is one below the text's length: its place is a digit and the first of its field.
pub record DigitPlaces : Type 0 where
  pub text : (l : Layout) (s : List ℕ) (k i : ℕ) → read_text l s ≡ refuse_at k i → 7 ≤ k → i < length s → (j : ℕ) × FirstDigit s 0 j i
  pub stamp :
      (l : Layout) (p : Partitions) (s : List ℕ) (k i : ℕ) → read_stamp l p s ≡ refuse_at k i → 7 ≤ k → i < length s
      → (j : ℕ) × FirstDigit s (clock_start s) j i

-- A place of the text is at most the text's length, and is it only "for an over-large sum, or a surplus field that is empty".
abbrev pub WithinText : List ℕ → List ℕ → List ℕ → ℕ → ℕ → ℕ → Type 0
WithinText ms os s start k i =
    (i ≤ length s) × (i ≡ length s → ((k ≡ 9) × LargeSum ms os s start) ⊎ ((k ≡ 7) × EmptySurplus (length ms) s start))

pub record TextBounds : Type 0 where
  pub text : (l : Layout) (s : List ℕ) (k i : ℕ) → read_text l s ≡ refuse_at k i → WithinText (moduli_of l) (offsets_of l) s 0 k i
  pub stamp :
      (l : Layout) (p : Partitions) (s : List ℕ) (k i : ℕ) → read_stamp l p s ≡ refuse_at k i → (k ≡ 2 → ⊥)
      → WithinText (moduli_of l) (offsets_of l) s (clock_start s) k i

-- none of 21, 22 and 23 is due
pub record GoodMessage (m : List ℕ) : Type 0 where
  pub two_bytes : 2 ≤ length m
  pub some : 1 ≤ text_length m
  pub short : text_length m ≤ longest_text
  pub near : text_length m ≤ length m - 2

-- The places of a message are those of its text; a time's are those of the reading before it, and then 3 of the segments.
pub record PlacesPassedOn : Type 0 where
  pub message :
      (l : Layout) (p : Partitions) (m : List ℕ) (k i : ℕ)
      → read_message l p m ≡ refuse_at k i ↔ GoodMessage m × (read_stamp l p (text_in m) ≡ refuse_at k i)
  pub time_of_stamp_lem :
      (l : Layout) (p : Partitions) (g : Segments) (s : List ℕ) (k i : ℕ)
      → time_of_stamp l p g s ≡ refuse_at k i
      ↔ (read_stamp l p s ≡ refuse_at k i) ⊎ ((r : Reading) × (read_stamp l p s ≡ answer r) × (k ≡ 3) × SegmentsFaultAt (unit_of l) (total_of p) g i)
  pub time_of_message_lem :
      (l : Layout) (p : Partitions) (g : Segments) (m : List ℕ) (k i : ℕ)
      → time_of_message l p g m ≡ refuse_at k i ↔ GoodMessage m × (time_of_stamp l p g (text_in m) ≡ refuse_at k i)
