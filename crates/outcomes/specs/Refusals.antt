-- The exact set of refusals that each call can give, and which of them have a place. proofs/Refusals.antt shows that it gives no other,
-- Given.antt that it gives each; for the double form, whose one refusal is 15, cases of rules' DoubleExamples give it.
use Rattle.std.specs.Prelude.{ℕ, ◌≡◌, Bool, true, false, List, [], ◌∷◌, ℤ, Float, Option, Some, None}
use Rattle.base.specs.Scans.{among}
use Rattle.rules.specs.declared.Layout.{Layout}
use Rattle.rules.specs.declared.DoubleSegment.{DoubleSegment}
use Rattle.rules.specs.Answer.{Answer, refused, Numbered}
use Rattle.rules.specs.Partitions.{Partitions}
use Rattle.rules.specs.Segments.{Segments}
use Rattle.rules.specs.Text.{read_text}
use Rattle.rules.specs.Stamp.{read_stamp}
use Rattle.rules.specs.Message.{read_message}
use Rattle.rules.specs.Print.{print_count, print_stamp}
use Rattle.rules.specs.Time.{time_of, count_at, steps_back_in}
use Rattle.rules.specs.Doubles.{forward_double, back_double}
use Rattle.rules.specs.StampTime.{time_of_stamp, time_of_message}

unfoldable pub text_refusals : List ℕ
text_refusals = 1 ∷ 4 ∷ 5 ∷ 6 ∷ 7 ∷ 8 ∷ 9 ∷ []

unfoldable pub stamp_refusals : List ℕ
stamp_refusals = 1 ∷ 2 ∷ 4 ∷ 5 ∷ 6 ∷ 7 ∷ 8 ∷ 9 ∷ 10 ∷ 11 ∷ []

-- never 4: the text of a message has at most 96 bytes
unfoldable pub message_refusals : List ℕ
message_refusals = 21 ∷ 22 ∷ 23 ∷ 1 ∷ 2 ∷ 5 ∷ 6 ∷ 7 ∷ 8 ∷ 9 ∷ 10 ∷ 11 ∷ []

unfoldable pub print_count_refusals : List ℕ
print_count_refusals = 1 ∷ 9 ∷ 16 ∷ []

-- never 9: the count of a stamp is below P
unfoldable pub print_stamp_refusals : List ℕ
print_stamp_refusals = 1 ∷ 2 ∷ 12 ∷ 16 ∷ []

-- never 14: the time of a count lies within ±4×10^18
unfoldable pub time_of_refusals : List ℕ
time_of_refusals = 1 ∷ 2 ∷ 3 ∷ 12 ∷ 13 ∷ []

unfoldable pub count_at_refusals : List ℕ
count_at_refusals = 1 ∷ 2 ∷ 3 ∷ 13 ∷ 14 ∷ []

-- never 12: the encoded count of a stamp is at most the total
unfoldable pub time_of_stamp_refusals : List ℕ
time_of_stamp_refusals = 1 ∷ 2 ∷ 4 ∷ 5 ∷ 6 ∷ 7 ∷ 8 ∷ 9 ∷ 10 ∷ 11 ∷ 3 ∷ 13 ∷ []

-- nor 4
unfoldable pub time_of_message_refusals : List ℕ
time_of_message_refusals = 21 ∷ 22 ∷ 23 ∷ 1 ∷ 2 ∷ 5 ∷ 6 ∷ 7 ∷ 8 ∷ 9 ∷ 10 ∷ 11 ∷ 3 ∷ 13 ∷ []

unfoldable pub steps_back_refusals : List ℕ
steps_back_refusals = 1 ∷ 2 ∷ 3 ∷ []

-- the double form
unfoldable pub double_refusals : List ℕ
double_refusals = 15 ∷ []

-- Which refusals have a place, by their numbers. "A refusal of text (5, 7, 8, 9) now also gives the byte at which it was found",
-- "Refusals 2 and 3 give the first row".
unfoldable pub has_place : ℕ → Bool
has_place k = among k (2 ∷ 3 ∷ 5 ∷ 7 ∷ 8 ∷ 9 ∷ [])

-- a count to print is no text: its 9 has none
unfoldable pub no_place : ℕ → Bool
no_place k = false

abbrev pub is_at : Option ℕ → Bool
is_at None = false
is_at (Some i) = true

-- its number is one of ks, and it has a place exactly where `places` says so of its number
pub record OneOf (places : ℕ → Bool) (ks : List ℕ) (r : Numbered) : Type 0 where
  pub number : among r.number ks ≡ true
  pub place : is_at r.place ≡ places r.number

-- every refusal of a call is such a one
abbrev pub OnlyRefuses : {A : Type 0} → (ℕ → Bool) → List ℕ → Answer A → Type 0
OnlyRefuses places ks a = (r : Numbered) → a ≡ refused r → OneOf places ks r

pub record Refusals : Type 0 where
  pub text : (l : Layout) (s : List ℕ) → OnlyRefuses has_place text_refusals (read_text l s)
  pub stamp : (l : Layout) (p : Partitions) (s : List ℕ) → OnlyRefuses has_place stamp_refusals (read_stamp l p s)
  pub message : (l : Layout) (p : Partitions) (m : List ℕ) → OnlyRefuses has_place message_refusals (read_message l p m)
  pub print_count_lem : (l : Layout) (c room : ℕ) → OnlyRefuses no_place print_count_refusals (print_count l c room)
  pub print_stamp_lem : (l : Layout) (p : Partitions) (e room : ℕ) → OnlyRefuses has_place print_stamp_refusals (print_stamp l p e room)
  pub time_of_lem : (l : Layout) (p : Partitions) (g : Segments) (e : ℕ) → OnlyRefuses has_place time_of_refusals (time_of l p g e)
  pub count_at_lem : (l : Layout) (p : Partitions) (g : Segments) (t : ℤ) → OnlyRefuses has_place count_at_refusals (count_at l p g t)
  pub time_of_stamp_lem : (l : Layout) (p : Partitions) (g : Segments) (s : List ℕ) → OnlyRefuses has_place time_of_stamp_refusals (time_of_stamp l p g s)
  pub time_of_message_lem : (l : Layout) (p : Partitions) (g : Segments) (m : List ℕ) → OnlyRefuses has_place time_of_message_refusals (time_of_message l p g m)
  pub steps_back_lem : (l : Layout) (p : Partitions) (g : Segments) → OnlyRefuses has_place steps_back_refusals (steps_back_in l p g)
  pub forward : (s : DoubleSegment) (msf c : ℕ) → OnlyRefuses has_place double_refusals (forward_double s msf c)
  pub back : (s : DoubleSegment) (msf : ℕ) (t : Float) → OnlyRefuses has_place double_refusals (back_double s msf t)
