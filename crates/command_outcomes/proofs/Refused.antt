-- Where `succeeds` says yes and the two tables refuse a line with two numbers: the older 10, the newer 11.
use Prim.Native.Nat.{ℕ, ◌-◌, ◌≤◌}
use native.Mathlib.Omega.{arith}
use mathlib.Core.Path.{◌≡◌, refl, sym, ap, ◌∙◌}
use mathlib.Core.Bool.{Bool, true, false, ◌&&◌}
use mathlib.Core.List.{List}
use mathlib.Core.Option.{Option, none, some}
use mathlib.Core.Logic.{⊎_elim}
use lib.Dec.{eqb, leb}
use borrow.Author.Tests.{eq-eqb, leb-true, leb-false, le-leb}
use Rattle.base.proofs.Tests.{by_test, not_both, and_both, and_first, and_second}
use Rattle.base.proofs.Scans.{last_or, last_is}
use Rattle.rules.specs.declared.Reading.{Reading}
use Rattle.rules.specs.Answer.{Answer, answer, refused, numbered, reading, unless, and_then, Numbered}
use Rattle.rules.specs.Layout.{moduli_of, offsets_of, unit_of}
use Rattle.rules.specs.Partitions.{Partitions, partitions_in, total_of}
use Rattle.rules.specs.Segments.{Segments, segments_in, row_of}
use Rattle.rules.specs.Stamp.{holds, encode_named, encode_found, encode_first, Parsed, named, unnamed, encode, parse_stamp, read_stamp}
use Rattle.rules.specs.Message.{read_message, accepted_message, text_in}
use Rattle.rules.specs.Time.{segment_of, time_on, time_in, time_of}
use Rattle.rules.specs.StampTime.{with_time}
use Rattle.rules.proofs.Answers.{not_answer, unless-rest}
use Rattle.outcomes.proofs.StampWithin.{stamp_within}
use Rattle.versions.specs.Versions.{Table, Accepted, Demand3, read_by, time_by}
use Rattle.versions.proofs.Partitions.{KeptPartitions}
use Rattle.versions.proofs.Segments.{count_same}
use Rattle.versions.proofs.Layouts.{OneLayout}
use Rattle.versions.proofs.Kept.{one_layout, kept_partitions, kept_segments, old_segments}
use Rattle.versions.proofs.Demand3.{through_two, through_three}
use Rattle.succession_outcomes.specs.Succession.{Succeeds}
use Rattle.succession_outcomes.specs.Horizon.{AgreeBelow}
use Rattle.command_rules.specs.Input.{without_return, read_hex}
use Rattle.command_outcomes.specs.Compared.{read_line}
use Rattle.command_outcomes.proofs.Agreement.{answer_to, timed_by, answer_is, line_keeps}

-- what two refusals are whose numbers differ
abbrev pub TenEleven : {A : Type 0} → Answer A → Answer A → Type 0
TenEleven a b = (j k : Numbered) → a ≡ refused j → b ≡ refused k → eqb j.number k.number ≡ false → (j ≡ numbered 10) × (k ≡ numbered 11)

-- a refusal is one, and no answer
module _ {A : Type 0} where
  which : {i j : Numbered} → ◌≡◌ {A = Answer A} (refused i) (refused j) → i ≡ j
  which q = cc

  not_refused : {x : A} {k : Numbered} → ◌≡◌ {A = Answer A} (answer x) (refused k) → ⊥
  not_refused h = not_answer (sym h)

-- two that have one number
one_number : {n : ℕ} (j k : Numbered) → j.number ≡ n → k.number ≡ n → eqb j.number k.number ≡ false → ⊥
one_number {n} j k a b d = not_both (eq-eqb j.number k.number (a ∙ sym b)) d

one_refusal : {A : Type 0} {i j k : Numbered} → ◌≡◌ {A = Answer A} (refused i) (refused j) → ◌≡◌ {A = Answer A} (refused i) (refused k) → eqb j.number k.number ≡ false → ⊥
one_refusal {A} {i} {j} {k} a b d = one_number {n = i.number} j k (ap (λ r. r.number) (sym (which a))) (ap (λ r. r.number) (sym (which b))) d

pair_unless : {A : Type 0} {a b : Answer A} (n : ℕ) (t : Bool) → TenEleven a b → TenEleven (unless n t a) (unless n t b)
unfolding unless
pair_unless n true h = h
pair_unless n false h = λ j k a b d. absurd (one_refusal a b d)

pair_then : {A B : Type 0} (a : Answer A) (f g : A → Answer B) → ((x : A) → TenEleven (f x) (g x)) → TenEleven (and_then a f) (and_then a g)
unfolding and_then
pair_then (answer x) f g h = h x
pair_then (refused i) f g h = λ j k a b d. absurd (one_refusal a b d)

-- a named partition: t and u say whether there is one of that number, h and i whether it holds the count
named_pair : (t u h i : Bool) (x y : ℕ) → (t ≡ true → u ≡ true)
    → TenEleven (and_then (unless 10 t (unless 11 h (answer x))) (λ e. answer (reading e))) (and_then (unless 10 u (unless 11 i (answer y))) (λ e. answer (reading e)))
unfolding unless and_then
named_pair false false h i x y up = λ j k a b d. absurd (one_refusal a b d)
named_pair false true h false x y up = λ j k a b d. (sym (which a), sym (which b))
named_pair false true h true x y up = λ j k a b d. absurd (not_refused b)
named_pair true false h i x y up = λ j k a b d. absurd (not_both (up refl) refl)
named_pair true true false false x y up = λ j k a b d. absurd (one_refusal a b d)
named_pair true true false true x y up = λ j k a b d. absurd (not_refused b)
named_pair true true true i x y up = λ j k a b d. absurd (not_refused a)

-- a count in no partition
found_eleven : (p : Partitions) (c : ℕ) (o : Option ℕ) (j : Numbered) → and_then (encode_found p c o) (λ e. answer (reading e)) ≡ refused j → j.number ≡ 11
unfolding encode_found and_then
found_eleven p c none j h = ap (λ r. r.number) (sym (which h))
found_eleven p c (some i) j h = absurd (not_refused h)

module _ (p q : Partitions) (more : partitions_in p ≤ partitions_in q) where
  there : (n : ℕ) → (leb 1 n && leb n (partitions_in p)) ≡ true → (leb 1 n && leb n (partitions_in q)) ≡ true
  there n t =
      let high : n ≤ partitions_in p = leb-true n (partitions_in p) (and_second (leb 1 n) (leb n (partitions_in p)) t) in
      and_both (and_first (leb 1 n) (leb n (partitions_in p)) t) (le-leb n (partitions_in q) (omega arith))

  encode_pair : (x : Parsed) → TenEleven (encode p x) (encode q x)
  unfolding encode encode_named encode_first
  encode_pair (named n r) = named_pair _ _ (holds p r.count (n - 1)) (holds q r.count (n - 1)) _ _ (there n)
  encode_pair (unnamed r) = λ j k a b d. absurd (one_number {n = 11} j k (found_eleven p r.count _ j a) (found_eleven q r.count _ k b) d)

-- a count within the total is refused 13 or not at all
on_thirteen : (unit : ℕ) (g : Segments) (e : ℕ) (j : Numbered) (o : Option ℕ) → with_time e (time_on unit g e o) ≡ refused j → (o ≡ none) × (j.number ≡ 13)
unfolding with_time time_on and_then
on_thirteen unit g e j none h = (refl, ap (λ r. r.number) (sym (which h)))
on_thirteen unit g e j (some i) h = absurd (not_refused h)

within_thirteen : (t : Table) → Accepted t → (e : ℕ) → leb e (total_of t.partitions) ≡ true → (j : Numbered) → with_time e (time_by t e) ≡ refused j → (segment_of t.segments.counts e ≡ none) × (j.number ≡ 13)
unfolding time_of time_in unless
within_thirteen t ok e b j h = on_thirteen (unit_of t.layout) t.segments e j (segment_of t.segments.counts e) (rw (through_three t ok, b) at h)

-- the count that a line is read to is at most the total
message_within : (t : Table) (r : Reading) (a : Answer (List ℕ)) → and_then a (read_message t.layout t.partitions) ≡ answer r → leb r.count (total_of t.partitions) ≡ true
unfolding and_then read_message accepted_message
message_within t r (answer m) h = stamp_within t.layout t.partitions (text_in m) r (unless-rest 23 _ _ r (unless-rest 22 _ _ r (unless-rest 21 _ _ r h)))
message_within t r (refused k) h = absurd (not_answer h)

read_within : (t : Table) (hex : Bool) (l : List ℕ) (r : Reading) → read_line hex t l ≡ answer r → leb r.count (total_of t.partitions) ≡ true
unfolding read_line
read_within t false l r h = stamp_within t.layout t.partitions (without_return l) r h
read_within t true l r h = message_within t r (read_hex (without_return l)) h

module _ (older newer : Table) (both : Succeeds older newer) (d : Demand3 older newer) (w : AgreeBelow older newer (total_of older.partitions)) where
  was : Accepted older
  was = both.accepted_older

  is : Accepted newer
  is = both.accepted_newer

  one : OneLayout older.layout newer.layout
  one = one_layout older newer was is both.says

  rows : KeptPartitions older.partitions newer.partitions
  rows = kept_partitions older newer was is both.says

  read_pair : (s : List ℕ) → TenEleven (read_by older s) (read_by newer s)
  unfolding read_stamp
  read_pair s =
      rw (through_two older was, through_two newer is, one.moduli, one.offsets)
      (pair_then (parse_stamp (moduli_of older.layout) (offsets_of older.layout) s) _ _ (encode_pair older.partitions newer.partitions rows.more))

  -- beyond the older's total, at which its last segment has begun, the newer has a time
  begun : (e : ℕ) → total_of older.partitions ≤ e → segment_of newer.segments.counts e ≡ none → ⊥
  unfolding segment_of
  begun e b n =
      let m = segments_in older.segments - 1 in
      let f = old_segments older newer was is in
      let k = kept_segments older newer was is both.says in
      let same = count_same _ _ _ _ k m (omega (arith, f.some)) in
      ⊎_elim
      (λ x. clash (sym (last_is (λ i. leb (row_of newer.segments i).count e) (segments_in newer.segments) x.0 x.1) ∙ n))
      (λ g. not_both (le-leb (row_of newer.segments m).count e (omega (arith, same, f.last))) (g m (omega (arith, f.some, k.more))))
      (last_or (λ i. leb (row_of newer.segments i).count e) (segments_in newer.segments))
    where
      clash : {i : ℕ} → ◌≡◌ {A = Option ℕ} (some i) none → ⊥
      clash q = let z : ◌≡◌ {A = ℕ} 0 1 = cc in omega arith

  -- what the older reads, the newer reads
  reads_same : (hex : Bool) (l : List ℕ) (r : Reading) → read_line hex older l ≡ answer r → read_line hex newer l ≡ answer r
  reads_same hex l r h = line_keeps older newer r (λ s e. (d.reading s).same r e) hex l h

  message_pair : (m : List ℕ) → TenEleven (read_message older.layout older.partitions m) (read_message newer.layout newer.partitions m)
  unfolding read_message accepted_message
  message_pair m = pair_unless 21 _ (pair_unless 22 _ (pair_unless 23 _ (read_pair (text_in m))))

  line_pair : (hex : Bool) (l : List ℕ) → TenEleven (read_line hex older l) (read_line hex newer l)
  unfolding read_line
  line_pair false l = read_pair (without_return l)
  line_pair true l = pair_then (read_hex (without_return l)) _ _ message_pair

  -- what only the newer reads is not below the older's total
  beyond : (hex : Bool) (l : List ℕ) (r : Reading) (j : Numbered) → read_line hex older l ≡ refused j → read_line hex newer l ≡ answer r → total_of older.partitions ≤ r.count
  beyond hex l r j o n =
      by_test (leb (total_of older.partitions) r.count)
      (λ t. leb-true _ _ t)
      (λ f. absurd (not_answer (sym o ∙ line_keeps newer older r (λ s e. w.newer_reads s r e (leb-false _ _ f)) hex l n)))

  timed_pair : (hex : Bool) (l : List ℕ) (a b : Answer Reading) → read_line hex older l ≡ a → read_line hex newer l ≡ b
      → TenEleven (and_then a (timed_by older)) (and_then b (timed_by newer))
  unfolding and_then timed_by
  timed_pair hex l (answer x) (answer y) o n = λ j k e f d.
      let high = read_within older hex l x o in
      absurd (one_number {n = 13} j k (within_thirteen older was x.count high j e).1 (within_thirteen newer is y.count (read_within newer hex l y n) k f).1 d)
  timed_pair hex l (answer x) (refused m) o n = λ j k e f d. absurd (not_refused (sym (reads_same hex l x o) ∙ n))
  timed_pair hex l (refused i) (answer y) o n = λ j k e f d.
      absurd (begun y.count (beyond hex l y i o n) (within_thirteen newer is y.count (read_within newer hex l y n) k f).0)
  timed_pair hex l (refused i) (refused m) o n = λ j k e f d. line_pair hex l j k (o ∙ ap refused (which e)) (n ∙ ap refused (which f)) d

  pub answers_pair : (hex : Bool) (l : List ℕ) → TenEleven (answer_to hex older l) (answer_to hex newer l)
  answers_pair hex l = rw (answer_is older hex l, answer_is newer hex l) (timed_pair hex l (read_line hex older l) (read_line hex newer l) refl refl)
