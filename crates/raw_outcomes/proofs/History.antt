-- After any list of calls: by induction on the list, one call at a time.
use Prim.Native.Nat.{ℕ, ◌+◌, ◌-◌, ◌≤◌}
use mathlib.Core.Path.{◌≡◌, refl, ◌∙◌, ap}
use mathlib.Core.Bool.{true, false}
use mathlib.Core.List.{List, [], ◌∷◌, ◌++◌, map}
use native.Mathlib.Omega.{arith}
use borrow.Author.Tests.{leb-true, ltb-true}
use Rattle.base.proofs.Tests.{by_test, not_both, and_first, and_second, or_only_first, neither_first, neither_second}
use Rattle.rules.specs.declared.Layout.{Layout}
use Rattle.rules.specs.Answer.{Answer, answer, refused, Numbered}
use Rattle.rules.specs.Partitions.{Partitions, lengths_before}
use Rattle.raw_rules.specs.declared.RawCounter.{RawCounter}
use Rattle.raw_rules.specs.Counter.{raw_difference, reset_raw, read_raw, counter_after}
use Rattle.raw_rules.specs.Calls.{Call, reset, read, raw_of, call_answer, after_call, after_calls}
use Rattle.raw_outcomes.specs.History.{is_accepted, is_accepted_reset, some_accepted_reset, accepted_raw, accepted_raws, differences, last_from, counted, Around, reset_in, calls_of, reset_accepted, reset_since, LastReset, accepted_since, reset_start, low, each_next, counts_up, moves_less, Track, Hypothesis, reset_low, readings_low, rises, short, Says, moved_by, added_up, track_of, History}
use Rattle.raw_outcomes.proofs.Answers.{reset-count, reset_start_lem, reset_within, read-started, read_count_lem, read_within, left-refused, left-answer}

refused_call : (c : RawCounter) (x : Call) (k : Numbered) → call_answer c x ≡ refused k → after_call c x ≡ c
unfolding after_call
refused_call c x k h = left-refused c (raw_of x) (call_answer c x) k h

-- a reset that is not accepted leaves the counter
reset_leaves : (c : RawCounter) (l : Layout) (p : Partitions) (number raw : ℕ) → is_accepted_reset (reset l p number raw) ≡ false → after_call c (reset l p number raw) ≡ c
unfolding is_accepted_reset call_answer
reset_leaves c l p number raw h = by_answer (reset_raw l p number) refl h
  where
    by_answer : (a : Answer ℕ) → reset_raw l p number ≡ a → is_accepted a ≡ false → after_call c (reset l p number raw) ≡ c
    by_answer (answer e) q t = absurd (not_both refl t)
    by_answer (refused k) q t = refused_call c (reset l p number raw) k q

-- the counter as it is, with no reading
at_rest : (c : RawCounter) → c.started ≡ true → c ≡ counted c.raw c.count []
unfolding counted last_from differences
at_rest c h = let e : c.count + 0 ≡ c.count = omega arith in rw (e, ← h) refl

-- raw numbers behind raw numbers
last_from_behind : (last : ℕ) (rs ss : List ℕ) → last_from (last_from last rs) ss ≡ last_from last (rs ++ ss)
unfolding last_from
last_from_behind last [] ss = refl
last_from_behind last (r ∷ rs) ss = last_from_behind r rs ss

differences_behind : (last : ℕ) (rs ss : List ℕ) → differences last rs + differences (last_from last rs) ss ≡ differences last (rs ++ ss)
unfolding last_from differences
differences_behind last [] ss = omega arith
differences_behind last (r ∷ rs) ss = omega (arith, differences_behind r rs ss)

counted_behind : (last e : ℕ) (rs ss : List ℕ) → counted (counted last e rs).raw (counted last e rs).count ss ≡ counted last e (rs ++ ss)
unfolding counted
counted_behind last e rs ss =
    let sum : (e + differences last rs) + differences (last_from last rs) ss ≡ e + differences last (rs ++ ss) = omega (arith, differences_behind last rs ss) in
    rw (last_from_behind last rs ss, sum)

-- one reading, accepted or not, on a counter that has had a reset
read_step : (c : RawCounter) (l : Layout) (p : Partitions) (raw : ℕ) → c.started ≡ true → after_call c (read l p raw) ≡ counted c.raw c.count (accepted_raw c (read l p raw))
unfolding after_call call_answer accepted_raw counted last_from differences
read_step c l p raw h = by_answer (read_raw l p c raw) refl
  where
    by_answer : (a : Answer ℕ) → read_raw l p c raw ≡ a → counter_after c raw (read_raw l p c raw) ≡ counted c.raw c.count (accepted_raw c (read l p raw))
    by_answer (answer e) q =
        let sum : e ≡ c.count + (raw_difference raw c.raw + 0) = omega (arith, read_count_lem l p c raw e q) in
        left-answer c raw (read_raw l p c raw) e q ∙ rw (q, sum)
    by_answer (refused k) q = left-refused c raw (read_raw l p c raw) k q ∙ rw q (at_rest c h)

-- one call that is no accepted reset
one_step : (c : RawCounter) (x : Call) → c.started ≡ true → is_accepted_reset x ≡ false → after_call c x ≡ counted c.raw c.count (accepted_raw c x)
unfolding accepted_raw
one_step c (reset l p number raw) h n = reset_leaves c l p number raw n ∙ at_rest c h
one_step c (read l p raw) h n = read_step c l p raw h

goes_on : (c : RawCounter) (calls : List Call) → c.started ≡ true → some_accepted_reset calls ≡ false → after_calls c calls ≡ counted c.raw c.count (accepted_raws c calls)
unfolding after_calls accepted_raws some_accepted_reset counted
goes_on c [] h n = at_rest c h
goes_on c (x ∷ xs) h n =
    let step = one_step c x h (neither_first (is_accepted_reset x) (some_accepted_reset xs) n) in
    goes_on (after_call c x) xs (on (after_call c x) _ step) (neither_second (is_accepted_reset x) (some_accepted_reset xs) n) ∙ joined (after_call c x) (accepted_raws (after_call c x) xs) _ step
  where
    on : (d : RawCounter) (rs : List ℕ) → d ≡ counted c.raw c.count rs → d.started ≡ true
    on d rs e = rw e

    joined : (d : RawCounter) (ss rs : List ℕ) → d ≡ counted c.raw c.count rs → counted d.raw d.count ss ≡ counted c.raw c.count (rs ++ ss)
    joined d ss rs e = rw e (counted_behind c.raw c.count rs ss)

-- a counter that has had no reset refuses every reading
unstarted_step : (c : RawCounter) (x : Call) → c.started ≡ false → is_accepted_reset x ≡ false → after_call c x ≡ c
unfolding call_answer
unstarted_step c (reset l p number raw) h n = reset_leaves c l p number raw n
unstarted_step c (read l p raw) h n = by_answer (read_raw l p c raw) refl
  where
    by_answer : (a : Answer ℕ) → read_raw l p c raw ≡ a → after_call c (read l p raw) ≡ c
    by_answer (answer e) q = absurd (not_both (read-started l p c raw e q) h)
    by_answer (refused k) q = refused_call c (read l p raw) k q

stays : (c : RawCounter) (calls : List Call) → c.started ≡ false → some_accepted_reset calls ≡ false → after_calls c calls ≡ c
unfolding after_calls some_accepted_reset
stays c [] h n = refl
stays c (x ∷ xs) h n =
    let same = unstarted_step c x h (neither_first (is_accepted_reset x) (some_accepted_reset xs) n) in
    rw same (stays c xs h (neither_second (is_accepted_reset x) (some_accepted_reset xs) n))

-- the calls before the reset, then the reset, then those since
behind : (c : RawCounter) (xs ys : List Call) → after_calls c (xs ++ ys) ≡ after_calls (after_calls c xs) ys
unfolding after_calls
behind c [] ys = refl
behind c (x ∷ xs) ys = behind (after_call c x) xs ys

-- an accepted reset starts again at its start
reset_step : (c : RawCounter) (l : Layout) (p : Partitions) (number raw : ℕ) → is_accepted_reset (reset l p number raw) ≡ true
    → after_call c (reset l p number raw) ≡ record { started = true; raw = raw; count = lengths_before p (number - 1) }
unfolding is_accepted_reset after_call call_answer
reset_step c l p number raw h = by_answer (reset_raw l p number) refl h
  where
    by_answer : (a : Answer ℕ) → reset_raw l p number ≡ a → is_accepted a ≡ true → counter_after c raw (reset_raw l p number) ≡ record { started = true; raw = raw; count = lengths_before p (number - 1) }
    by_answer (answer e) q t = left-answer c raw (reset_raw l p number) e q ∙ rw (reset-count l p number e q)
    by_answer (refused k) q t = absurd (not_both t refl)

around_count : (c : RawCounter) (s : Around) → reset_accepted s ≡ true → reset_since s ≡ false → after_calls c (calls_of s) ≡ counted s.raw (reset_start s) (accepted_since c s)
unfolding calls_of accepted_since after_calls
around_count c s taken last =
    behind c s.before (reset_in s ∷ s.since)
    ∙ on (after_call (after_calls c s.before) (reset_in s)) (reset_step (after_calls c s.before) s.layout s.partitions s.number s.raw taken)
  where
    on : (d : RawCounter) → d ≡ record { started = true; raw = s.raw; count = reset_start s } → after_calls d s.since ≡ counted s.raw (reset_start s) (accepted_raws d s.since)
    on d e = goes_on d s.since (rw e) last ∙ rw e

count : (c : RawCounter) (calls : List Call) (r : LastReset calls) → after_calls c calls ≡ counted r.around.raw (reset_start r.around) (accepted_since c r.around)
count c calls r = rw r.whole (around_count c r.around r.taken r.last)

-- of a list with an accepted reset, the last one
preceded : (x : Call) {calls : List Call} → LastReset calls → LastReset (x ∷ calls)
unfolding calls_of
preceded x r =
    let s = r.around in
    record {
      around = record { before = x ∷ s.before; layout = s.layout; partitions = s.partitions; number = s.number; raw = s.raw; since = s.since };
      whole = ap (λ xs. x ∷ xs) r.whole;
      taken = r.taken;
      last = r.last;
    }

this_one : (x : Call) (xs : List Call) → is_accepted_reset x ≡ true → some_accepted_reset xs ≡ false → LastReset (x ∷ xs)
unfolding is_accepted_reset calls_of
this_one (reset l p number raw) xs t n =
    record { around = record { before = []; layout = l; partitions = p; number = number; raw = raw; since = xs }; whole = refl; taken = t; last = n }
this_one (read l p raw) xs t n = absurd (not_both t refl)

last_reset : (calls : List Call) → some_accepted_reset calls ≡ true → LastReset calls
unfolding some_accepted_reset
last_reset [] t = absurd (not_both t refl)
last_reset (x ∷ xs) t =
    by_test (some_accepted_reset xs)
    (λ later. preceded x (last_reset xs later))
    (λ none. this_one x xs (or_only_first (is_accepted_reset x) (some_accepted_reset xs) t none) none)

ruleset tests = (leb-true, ltb-true)

-- The true counter. One move of less than 2^32 is the difference of its low bits.
one_move : (n m : ℕ) → counts_up n m ≡ true → moves_less n m ≡ true → raw_difference (low m) (low n) ≡ m - n
unfolding raw_difference
one_move n m up less = omega (arith, tests)

-- a counter that counts up ends no earlier than it began
no_earlier : (n m k : ℕ) → counts_up n m ≡ true → m ≤ k → n ≤ k
no_earlier n m k up h = omega (arith, tests)

risen : (n : ℕ) (ms : List ℕ) → each_next counts_up n ms ≡ true → n ≤ last_from n ms
unfolding each_next last_from
risen n [] up = omega arith
risen n (m ∷ ms) up = no_earlier n m (last_from m ms) (and_first (counts_up n m) _ up) (risen m ms (and_second (counts_up n m) _ up))

-- two moves are one
two_moves : (n m k d e : ℕ) → counts_up n m ≡ true → m ≤ k → d ≡ m - n → e ≡ k - m → d + e ≡ k - n
two_moves n m k d e up h p q = omega (arith, tests)

all_moves : (n : ℕ) (ms : List ℕ) → each_next counts_up n ms ≡ true → each_next moves_less n ms ≡ true → differences (low n) (map low ms) ≡ last_from n ms - n
unfolding each_next last_from differences
all_moves n [] up less = omega arith
all_moves n (m ∷ ms) up less =
    let here = and_first (counts_up n m) _ up in
    let later = and_second (counts_up n m) _ up in
    two_moves n m (last_from m ms) _ _ here (risen m ms later)
    (one_move n m here (and_first (moves_less n m) _ less))
    (all_moves m ms later (and_second (moves_less n m) _ less))

moved : (t : Track) → ((h : Hypothesis) → Says t h) → added_up t ≡ moved_by t
moved t says = rw (says reset_low, says readings_low) (all_moves t.at_reset t.at_readings (says rises) (says short))

true_count : (c : RawCounter) (calls : List Call) (r : LastReset calls) (at_reset : ℕ) (at_readings : List ℕ) → ((h : Hypothesis) → Says (track_of c r.around at_reset at_readings) h)
    → (after_calls c calls).count ≡ reset_start r.around + moved_by (track_of c r.around at_reset at_readings)
unfolding counted
true_count c calls r at_reset at_readings says = rw (count c calls r, moved (track_of c r.around at_reset at_readings) says)

pub history : History
history =
    record {
      last_reset = last_reset;
      count = count;
      moved = moved;
      true_count = true_count;
      goes_on = goes_on;
      stays = stays;
      refused_leaves = refused_call;
      reset_start_lem = reset_start_lem;
      reset_within = reset_within;
      read_within = read_within;
    }
