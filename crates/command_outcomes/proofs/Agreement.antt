-- The calls of a comparison under two tables: reading, and then the time, of a line.
use Prim.Native.Nat.{ℕ, ◌<◌}
use mathlib.Core.Path.{◌≡◌, refl}
use mathlib.Core.Bool.{Bool, true, false}
use mathlib.Core.List.{List, [], ◌∷◌}
use lib.Dec.{eqb}
use borrow.Author.Tests.{eqb-true}
use Rattle.base.specs.Scans.{among}
use Rattle.base.proofs.Tests.{by_test, not_both}
use Rattle.rules.specs.declared.Reading.{Reading}
use Rattle.rules.specs.declared.TimedStamp.{TimedStamp}
use Rattle.rules.specs.Answer.{Answer, answer, refused, unless, and_then}
use Rattle.rules.specs.Message.{read_message, accepted_message, text_in}
use Rattle.rules.specs.StampTime.{with_time, time_of_stamp, time_of_message}
use Rattle.rules.proofs.Answers.{not_answer}
use Rattle.outcomes.specs.Refusals.{OnlyRefuses, time_of_stamp_refusals, time_of_message_refusals}
use Rattle.outcomes.proofs.Refusals.{only_those}
use Rattle.versions.specs.Versions.{Table, Agree, Demand3, older_refuses_stamp, older_refuses_count, read_by, time_by}
use Rattle.versions.proofs.Agreement.{agree_same, agree_unless, agree_then}
use Rattle.succession_outcomes.specs.Horizon.{AgreeBelow}
use Rattle.command_rules.specs.Input.{without_return, read_hex}
use Rattle.command_rules.specs.Lines.{stamp_by, message_by}
use Rattle.command_outcomes.specs.Compared.{read_line}

-- what a table answers to a line
unfoldable pub answer_to : Bool → Table → List ℕ → Answer TimedStamp
answer_to false t l = stamp_by t (without_return l)
answer_to true t l = message_by t (without_return l)

-- reading or time: 10, 11 or 12
abbrev either : List ℕ
either = 10 ∷ 11 ∷ 12 ∷ []

widen : {A : Type 0} {ks js : List ℕ} {a b : Answer A} → ((k : ℕ) → among k ks ≡ true → among k js ≡ true) → Agree ks a b → Agree js a b
widen f h = record { same = h.same; refuses = λ x k n o. f k.number (h.refuses x k n o) }

reading_numbers : (k : ℕ) → among k older_refuses_stamp ≡ true → among k either ≡ true
unfolding among
reading_numbers k h =
    by_test (eqb k 10) (λ t. rw t) (λ f. by_test (eqb k 11) (λ t. rw (f, t)) (λ g. absurd (not_both h (rw (f, g)))))

time_numbers : (k : ℕ) → among k older_refuses_count ≡ true → among k either ≡ true
unfolding among
time_numbers k h =
    by_test (eqb k 10) (λ t. rw t) (λ f. by_test (eqb k 11) (λ t. rw (f, t)) (λ g. rw (f, g) h))

-- a call that does not refuse 12
without_twelve : (k : ℕ) (ks : List ℕ) → among 12 ks ≡ false → among k ks ≡ true → among k either ≡ true → among k older_refuses_stamp ≡ true
unfolding among
without_twelve k ks lacks has h =
    by_test (eqb k 12)
    (λ t. let e : k ≡ 12 = eqb-true k 12 t in absurd (not_both (rw e at has) lacks))
    (λ f. by_test (eqb k 10) (λ t. rw t) (λ g. by_test (eqb k 11) (λ t. rw (g, t)) (λ n. absurd (not_both h (rw (f, g, n))))))

sharpen : {A : Type 0} {places : ℕ → Bool} (ks : List ℕ) {a b : Answer A} → among 12 ks ≡ false → OnlyRefuses places ks a → Agree either a b → Agree older_refuses_stamp a b
sharpen ks lacks only h =
    record { same = h.same; refuses = λ x k n o. without_twelve k.number ks lacks (only k o).number (h.refuses x k n o) }

module _ (older newer : Table) (d : Demand3 older newer) where
  -- a reading and then its time
  timed : (a b : Answer Reading) → Agree older_refuses_stamp a b
      → Agree either (and_then a (λ r. with_time r.count (time_by older r.count))) (and_then b (λ r. with_time r.count (time_by newer r.count)))
  unfolding with_time
  timed a b h =
      agree_then a b (widen reading_numbers h) (λ r. agree_then _ _ (widen time_numbers (d.time_of_lem r.count)) (λ t. agree_same refl))

  stamps_agree : (s : List ℕ) → Agree older_refuses_stamp (stamp_by older s) (stamp_by newer s)
  unfolding time_of_stamp time_of_stamp_refusals among
  stamps_agree s = sharpen time_of_stamp_refusals refl (only_those.time_of_stamp_lem older.layout older.partitions older.segments s) (timed _ _ (d.reading s))

  messages_agree : (m : List ℕ) → Agree older_refuses_stamp (time_of_message older.layout older.partitions older.segments m) (time_of_message newer.layout newer.partitions newer.segments m)
  unfolding time_of_message time_of_message_refusals among read_message accepted_message
  messages_agree m =
      sharpen time_of_message_refusals refl (only_those.time_of_message_lem older.layout older.partitions older.segments m)
      (timed _ _ (agree_unless 21 _ (agree_unless 22 _ (agree_unless 23 _ (d.reading (text_in m))))))

  pub lines_agree : (hex : Bool) (l : List ℕ) → Agree older_refuses_stamp (answer_to hex older l) (answer_to hex newer l)
  unfolding answer_to message_by
  lines_agree false l = stamps_agree (without_return l)
  lines_agree true l = agree_then (read_hex (without_return l)) _ (agree_same refl) messages_agree

-- what is answered after a test, or after a step, is answered where what follows keeps its answer
module _ {A : Type 0} (y : A) where
  unless_keeps : (k : ℕ) (t : Bool) {a b : Answer A} → (a ≡ answer y → b ≡ answer y) → unless k t a ≡ answer y → unless k t b ≡ answer y
  unfolding unless
  unless_keeps k true f h = f h
  unless_keeps k false f h = absurd (not_answer h)

  then_keeps : {B : Type 0} (a : Answer B) (f g : B → Answer A) → ((x : B) → f x ≡ answer y → g x ≡ answer y) → and_then a f ≡ answer y → and_then a g ≡ answer y
  unfolding and_then
  then_keeps (answer x) f g s h = s x h
  then_keeps (refused k) f g s h = absurd (not_answer h)

-- a message is read as its text is
message_keeps : (t u : Table) (m : List ℕ) (r : Reading) → (read_by t (text_in m) ≡ answer r → read_by u (text_in m) ≡ answer r)
    → read_message t.layout t.partitions m ≡ answer r → read_message u.layout u.partitions m ≡ answer r
unfolding read_message accepted_message
message_keeps t u m r f h = unless_keeps r 21 _ (unless_keeps r 22 _ (unless_keeps r 23 _ f)) h

-- so is a line
pub line_keeps : (t u : Table) (r : Reading) → ((s : List ℕ) → read_by t s ≡ answer r → read_by u s ≡ answer r)
    → (hex : Bool) (l : List ℕ) → read_line hex t l ≡ answer r → read_line hex u l ≡ answer r
unfolding read_line
line_keeps t u r f false l h = f (without_return l) h
line_keeps t u r f true l h = then_keeps r (read_hex (without_return l)) _ _ (λ m. message_keeps t u m r (f (text_in m))) h

then-then : {A B C : Type 0} (a : Answer A) (f : A → Answer B) (g : B → Answer C) → and_then a (λ x. and_then (f x) g) ≡ and_then (and_then a f) g
unfolding and_then
then-then (answer x) f g = refl
then-then (refused k) f g = refl

-- the time of a reading
unfoldable pub timed_by : Table → Reading → Answer TimedStamp
timed_by t r = with_time r.count (time_by t r.count)

-- a line is read, and then timed
pub answer_is : (t : Table) (hex : Bool) (l : List ℕ) → answer_to hex t l ≡ and_then (read_line hex t l) (timed_by t)
unfolding answer_to read_line message_by time_of_stamp time_of_message timed_by
answer_is t false l = refl
answer_is t true l = then-then (read_hex (without_return l)) (read_message t.layout t.partitions) (λ r. with_time r.count (time_by t r.count))

read_answer : (t : Table) (hex : Bool) (l : List ℕ) (r : Reading) → read_line hex t l ≡ answer r → answer_to hex t l ≡ with_time r.count (time_by t r.count)
unfolding and_then timed_by
read_answer t hex l r h = rw (answer_is t hex l, h)

module _ (older newer : Table) (h : ℕ) (w : AgreeBelow older newer h) (hex : Bool) (l : List ℕ) (r : Reading) where
  both_read : r.count < h → read_line hex older l ≡ answer r → read_line hex newer l ≡ answer r → answer_to hex newer l ≡ answer_to hex older l
  both_read b o n = rw (read_answer older hex l r o, read_answer newer hex l r n, w.one_time r.count b)

  pub older_reads_below : r.count < h → read_line hex older l ≡ answer r → answer_to hex newer l ≡ answer_to hex older l
  older_reads_below b o = both_read b o (line_keeps older newer r (λ s e. w.older_reads s r e b) hex l o)

  pub newer_reads_below : r.count < h → read_line hex newer l ≡ answer r → answer_to hex newer l ≡ answer_to hex older l
  newer_reads_below b n = both_read b (line_keeps newer older r (λ s e. w.newer_reads s r e b) hex l n) n
