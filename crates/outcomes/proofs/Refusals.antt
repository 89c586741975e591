-- No call gives a refusal outside its set, nor one with a place where it has none, nor one without where it has one.
use Prim.Native.Nat.{ℕ, ◌+◌, ◌-◌, ◌≤◌}
use mathlib.Core.Path.{◌≡◌, refl}
use mathlib.Core.Bool.{Bool, true, false}
use mathlib.Core.List.{List, [], ◌∷◌}
use mathlib.Core.Option.{Option, none, some}
use lib.IntN.{ℤ}
use lib.Ieee.{Float}
use lib.Dec.{leb}
use lib.ListN.{length, drop, length-take}
use borrow.Author.Tests.{leb-true, le-leb}
use native.Mathlib.Omega.{arith}
use Rattle.base.specs.Scans.{among}
use Rattle.base.proofs.Tests.{and_first}
use Rattle.rules.specs.Limits.{longest_text}
use Rattle.rules.specs.declared.Layout.{Layout}
use Rattle.rules.specs.declared.Reading.{Reading}
use Rattle.rules.specs.Answer.{Answer, answer, unless, and_then}
use Rattle.rules.specs.Layout.{moduli_of, offsets_of}
use Rattle.rules.specs.Partitions.{Partitions, total_of}
use Rattle.rules.specs.Segments.{Segments}
use Rattle.rules.specs.Text.{Field, read_text, parse_text, bytes_count, fields_count, each_field}
use Rattle.rules.specs.Stamp.{Parsed, named, unnamed, read_stamp, parse_stamp, parsed_at, encode, encode_named, encode_found, encode_first}
use Rattle.rules.specs.Message.{read_message, accepted_message, text_length, text_in}
use Rattle.rules.specs.Print.{print_count, print_stamp, fitting}
use Rattle.rules.specs.Time.{time_of, time_in, time_on, count_at, count_in, count_on, not_beyond, steps_back_in, segment_of, segment_at}
use Rattle.rules.specs.Doubles.{finite_answer, forward_double, back_double}
use Rattle.rules.specs.StampTime.{with_time, time_of_stamp, time_of_message}
use Rattle.rules.proofs.Answers.{unless-rest}
use Rattle.outcomes.specs.Refusals.{
  text_refusals,
  stamp_refusals,
  message_refusals,
  print_count_refusals,
  print_stamp_refusals,
  time_of_refusals,
  count_at_refusals,
  time_of_stamp_refusals,
  time_of_message_refusals,
  steps_back_refusals,
  double_refusals,
  has_place,
  no_place,
  OnlyRefuses,
  Refusals,
}
use Rattle.outcomes.proofs.StampWithin.{stamp_within}
use Rattle.outcomes.proofs.Ladder.{answers, last_rung, rung_then, rung, rung_at, then, accepted_only}

-- the text of a message has at most 96 bytes
message_short : (m : List ℕ) → text_length m ≤ longest_text → leb (length (text_in m)) longest_text ≡ true
unfolding text_in
message_short m h = le-leb (length (text_in m)) longest_text (omega (arith, length-take (text_length m) (drop (length m - 2 - text_length m) m)))

-- a stamp that was parsed, under any set that has 10 and 11, both without a place
module _
    {places : ℕ → Bool} {ks : List ℕ} (ten : among 10 ks ≡ true) (eleven : among 11 ks ≡ true) (ten-bare : places 10 ≡ false)
    (eleven-bare : places 11 ≡ false) (p : Partitions)
  where
    found_only : (c : ℕ) (o : Option ℕ) → OnlyRefuses places ks (encode_found p c o)
    unfolding encode_found
    found_only c none = last_rung 11 eleven eleven-bare
    found_only c (some i) = answers _

    pub encode_only : (x : Parsed) → OnlyRefuses places ks (encode p x)
    unfolding encode encode_named encode_first
    encode_only (named k r) = then _ (rung 10 _ ten ten-bare (rung 11 _ eleven eleven-bare (answers _))) (λ e _. answers _)
    encode_only (unnamed r) = then _ (found_only r.count _) (λ e _. answers _)

-- the bytes of a text, under any set that has 5 to 9
module _
    {ks : List ℕ} (five : among 5 ks ≡ true) (six : among 6 ks ≡ true) (seven : among 7 ks ≡ true) (eight : among 8 ks ≡ true)
    (nine : among 9 ks ≡ true)
  where
    each_only : (fs : List Field) (os : List ℕ) (a : Answer Reading) → OnlyRefuses has_place ks a → OnlyRefuses has_place ks (each_field fs os a)
    unfolding each_field has_place among
    each_only [] os a h = h
    each_only (f ∷ fs) [] a h = h
    each_only (f ∷ fs) (o ∷ os) a h = rung_at 9 _ nine refl (rung_at 8 _ eight refl (each_only fs os a h))

    bytes_only : (ms os s : List ℕ) (i : ℕ) → OnlyRefuses has_place ks (bytes_count ms os s i)
    unfolding bytes_count fields_count has_place among
    bytes_only ms os s i = rung_at 5 _ five refl (rung_at 7 _ seven refl (rung 6 _ six refl (each_only _ _ _ (rung_at 9 _ nine refl (answers _)))))

    parsed_only : (ms os s : List ℕ) (o : Option ℕ) → OnlyRefuses has_place ks (parsed_at ms os s o)
    unfolding parsed_at has_place among
    parsed_only ms os s none = then _ (bytes_only ms os s 0) (λ r _. answers _)
    parsed_only ms os s (some i) = rung_at 5 _ five refl (then _ (bytes_only ms os s (i + 1)) (λ r _. answers _))

    parse_only : among 4 ks ≡ true → (ms os s : List ℕ) → OnlyRefuses has_place ks (parse_stamp ms os s)
    unfolding parse_stamp has_place among
    parse_only four ms os s = rung 4 _ four refl (parsed_only ms os s _)

    parse_short : (ms os s : List ℕ) → leb (length s) longest_text ≡ true → OnlyRefuses has_place ks (parse_stamp ms os s)
    unfolding parse_stamp unless
    parse_short ms os s h = rw h (parsed_only ms os s _)

    -- a stamp, under any set that also has 1, 2, 10 and 11
    module _
        (one : among 1 ks ≡ true) (two : among 2 ks ≡ true) (ten : among 10 ks ≡ true) (eleven : among 11 ks ≡ true) (l : Layout) (p : Partitions)
      where
        stamp_only : (s : List ℕ) → OnlyRefuses has_place ks (parse_stamp (moduli_of l) (offsets_of l) s) → OnlyRefuses has_place ks (read_stamp l p s)
        unfolding read_stamp has_place among
        stamp_only s h = rung 1 _ one refl (rung_at 2 _ two refl (then _ h (λ x _. encode_only ten eleven refl refl p x)))

        message_only : among 21 ks ≡ true → among 22 ks ≡ true → among 23 ks ≡ true → (m : List ℕ) → OnlyRefuses has_place ks (read_message l p m)
        unfolding read_message accepted_message has_place among
        message_only h i j m =
            rung 21 _ h refl
            (rung 22 _ i refl
            (rung_then 23 _ j refl (λ t. stamp_only (text_in m) (parse_short _ _ _ (message_short m (leb-true (text_length m) longest_text (and_first _ _ t)))))))

pub fitting_only : {places : ℕ → Bool} {ks : List ℕ} → among 16 ks ≡ true → places 16 ≡ false → (room : ℕ) (s : List ℕ) → OnlyRefuses places ks (fitting room s)
unfolding fitting
fitting_only h p room s = rung 16 _ h p (answers s)

-- a time, or a count, under any set that has 13, without a place
module _ {places : ℕ → Bool} {ks : List ℕ} (thirteen : among 13 ks ≡ true) (thirteen-bare : places 13 ≡ false) where
  pub time_only : (unit : ℕ) (g : Segments) (e : ℕ) (o : Option ℕ) → OnlyRefuses places ks (time_on unit g e o)
  unfolding time_on
  time_only unit g e none = last_rung 13 thirteen thirteen-bare
  time_only unit g e (some i) = answers _

  pub count_only : among 14 ks ≡ true → places 14 ≡ false → (unit total : ℕ) (g : Segments) (t : ℤ) (o : Option ℕ) → OnlyRefuses places ks (count_on unit total g t o)
  unfolding count_on not_beyond
  count_only h b unit total g t none = last_rung 13 thirteen thirteen-bare
  count_only h b unit total g t (some i) = rung 14 _ h b (answers _)

-- the encoded count of a stamp is at most the total, so that no 12 comes
time_within : {ks : List ℕ} → among 13 ks ≡ true → (unit total : ℕ) (g : Segments) (e : ℕ) → leb e total ≡ true → OnlyRefuses has_place ks (time_in unit total g e)
unfolding time_in unless has_place among
time_within h unit total g e b = rw b (time_only h refl unit g e (segment_of g.counts e))

timed_only : {ks : List ℕ} → among 1 ks ≡ true → among 2 ks ≡ true → among 3 ks ≡ true → among 13 ks ≡ true → (l : Layout) (p : Partitions) (g : Segments) (a : Answer Reading)
    → OnlyRefuses has_place ks a → ((r : Reading) → a ≡ answer r → leb r.count (total_of p) ≡ true) → OnlyRefuses has_place ks (and_then a (λ r. with_time r.count (time_of l p g r.count)))
unfolding with_time time_of
timed_only one two three thirteen l p g a f w =
    then a f (λ r h. then _ (accepted_only one two three l p g (time_within thirteen _ _ g _ (w r h))) (λ t _. answers _))

stamp_time_only : (l : Layout) (p : Partitions) (g : Segments) (s : List ℕ) → OnlyRefuses has_place time_of_stamp_refusals (time_of_stamp l p g s)
unfolding time_of_stamp time_of_stamp_refusals among
stamp_time_only l p g s =
    timed_only refl refl refl refl l p g _
    (stamp_only refl refl refl refl refl refl refl refl refl l p s (parse_only refl refl refl refl refl refl _ _ s))
    (stamp_within l p s)

message_within : (l : Layout) (p : Partitions) (m : List ℕ) (r : Reading) → read_message l p m ≡ answer r → leb r.count (total_of p) ≡ true
unfolding read_message accepted_message
message_within l p m r h = stamp_within l p (text_in m) r (unless-rest 23 _ _ r (unless-rest 22 _ _ r (unless-rest 21 _ _ r h)))

message_time_only : (l : Layout) (p : Partitions) (g : Segments) (m : List ℕ) → OnlyRefuses has_place time_of_message_refusals (time_of_message l p g m)
unfolding time_of_message time_of_message_refusals among
message_time_only l p g m =
    timed_only refl refl refl refl l p g _ (message_only refl refl refl refl refl refl refl refl refl l p refl refl refl m) (message_within l p m)

fifteen : {A : Type 0} (b : Bool) {a : Answer A} → OnlyRefuses has_place double_refusals a → OnlyRefuses has_place double_refusals (unless 15 b a)
unfolding double_refusals has_place among
fifteen b h = rung 15 b refl refl h

double_result : (x : Float) → OnlyRefuses has_place double_refusals (finite_answer x)
unfolding finite_answer
double_result x = fifteen _ (answers x)

pub only_those : Refusals
unfolding forward_double back_double read_text parse_text print_count print_stamp time_of time_in count_at count_in steps_back_in text_refusals stamp_refusals message_refusals print_count_refusals print_stamp_refusals time_of_refusals count_at_refusals steps_back_refusals has_place no_place among
only_those =
    record {
      text = λ l s. rung 1 _ refl refl (rung 4 _ refl refl (bytes_only refl refl refl refl refl _ _ s 0));
      stamp = λ l p s. stamp_only refl refl refl refl refl refl refl refl refl l p s (parse_only refl refl refl refl refl refl _ _ s);
      message = λ l p m. message_only refl refl refl refl refl refl refl refl refl l p refl refl refl m;
      print_count_lem = λ l c room. rung 1 _ refl refl (rung 9 _ refl refl (fitting_only refl refl room _));
      print_stamp_lem = λ l p e room. rung 1 _ refl refl (rung_at 2 _ refl refl (rung 12 _ refl refl (fitting_only refl refl room _)));
      time_of_lem = λ l p g e. accepted_only refl refl refl l p g (rung 12 _ refl refl (time_only refl refl _ g e (segment_of g.counts e)));
      count_at_lem = λ l p g t. accepted_only refl refl refl l p g (rung 14 _ refl refl (count_only refl refl refl refl _ _ g t (segment_at g.times t)));
      time_of_stamp_lem = stamp_time_only;
      time_of_message_lem = message_time_only;
      steps_back_lem = λ l p g. accepted_only refl refl refl l p g (answers _);
      forward = λ s msf c. fifteen _ (fifteen _ (fifteen _ (fifteen _ (fifteen _ (double_result _)))));
      back = λ s msf t. fifteen _ (fifteen _ (fifteen _ (fifteen _ (fifteen _ (double_result _)))));
    }
