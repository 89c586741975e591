-- Every hypothesis is needed: the rows of specs/Needed.antt are computed, and what they compute refutes the claim.
use Prim.Native.Nat.{ℕ, ◌+◌, ◌*◌}
use mathlib.Core.Path.{◌≡◌, refl, sym, ap, ◌∙◌}
use mathlib.Core.Bool.{Bool, true, false, not, ◌&&◌, ◌||◌}
use mathlib.Core.List.{List, [], ◌∷◌}
use lib.Dec.{eqb, ltb}
use lib.IntN.{nat_abs}
use lib.ListN.{replicate, get_or}
use borrow.Author.Tests.{eq-eqb, eqb-true, lt-ltb, not-true}
use Rattle.base.specs.Scans.{all_of}
use Rattle.base.proofs.Tests.{by_test, and_both, not_both}
use Rattle.rules.specs.Answer.{Answer, answer, refused}
use Rattle.rules.specs.Partitions.{partitions_in, total_of}
use Rattle.versions.specs.Versions.{Table, Hypothesis, Accepted, Says, Agree, Exception, Demand3}
use Rattle.versions.specs.Versions.{same-n, same_moduli, same_offsets, same-delimiter, kept-starts, kept-ends, last_end, kept-counts, kept-times, kept-rates, further-counts, no_step_back}
use Rattle.versions.specs.Seam.{SaysAtSeam}
use Rattle.versions.specs.Needed.{TableQuestion, stamp, print, time, count, TableReply, read, print_out, timed, counted, ask, Row, pair, Needed, SeamNeeded}
use Rattle.versions.proofs.WrittenOut.{written_out}
use Rattle.versions.proofs.Demand3.{demand_3, at_seam}
use Rattle.versions.proofs.Meets.{hypotheses, index, at_index, meets, meets_says, passes, passes_accepted, each, each_at, all_of_at}

-- a number by which two replies are told apart
byte_code : List ℕ → ℕ
byte_code [] = 0
byte_code (b ∷ s) = b + 256 * byte_code s

code : TableReply → ℕ
code (read (answer r)) = r.count
code (print_out (answer p)) = byte_code p.bytes
code (timed (answer t)) = nat_abs t.time
code (counted (answer c)) = c.count
code (read (refused k)) = k.number
code (print_out (refused k)) = k.number
code (timed (refused k)) = k.number
code (counted (refused k)) = k.number

is_answer : {A : Type 0} → Answer A → Bool
is_answer (answer a) = true
is_answer (refused k) = false

answered : TableReply → Bool
unfolding is_answer
answered (read a) = is_answer a
answered (print_out a) = is_answer a
answered (timed a) = is_answer a
answered (counted a) = is_answer a

-- where the older answers, the newer replies the same
same_answer : {A : Type 0} {ks : List ℕ} (a b : Answer A) → Agree ks a b → is_answer a ≡ true → b ≡ a
unfolding is_answer
same_answer (answer x) b h t = h.same x refl
same_answer (refused k) b h t = absurd (not_both t refl)

-- a question that is not the exception
module _ (older newer : Table) where
  outside : TableQuestion → Bool
  outside (stamp s) = true
  outside (print e) = not (eqb e (total_of older.partitions) && ltb (partitions_in older.partitions) (partitions_in newer.partitions))
  outside (time e) = true
  outside (count t) = true

  not_exception : (e : ℕ) → outside (print e) ≡ true → Exception older newer e → ⊥
  unfolding outside
  not_exception e t x = not_both (and_both (eq-eqb _ _ x.total) (lt-ltb _ _ x.added)) (not-true _ t)

  same_reply : Demand3 older newer → (q : TableQuestion) → outside q ≡ true → answered (ask older q) ≡ true → ask newer q ≡ ask older q
  unfolding ask answered
  same_reply d (stamp s) o t = ap read (same_answer _ _ (d.reading _) t)
  same_reply d (print e) o t = ap print_out (same_answer _ _ (d.printing e (replicate 96 0) (replicate 96 0) refl (not_exception e o)) t)
  same_reply d (time e) o t = ap timed (same_answer _ _ (d.time_of_lem e) t)
  same_reply d (count at) o t = ap counted (same_answer _ _ (d.count_at_lem at) t)

-- every hypothesis but h
is_same : Hypothesis → Hypothesis → Bool
is_same k h = eqb (index k) (index h)

same_is : (k h : Hypothesis) → is_same k h ≡ true → k ≡ h
unfolding is_same
same_is k h t = sym (at_index k) ∙ ap (λ i. get_or hypotheses i same-n) (eqb-true _ _ t) ∙ at_index h

is_same_lem : (k h : Hypothesis) → k ≡ h → is_same k h ≡ true
unfolding is_same
is_same_lem k h e = eq-eqb _ _ (ap index e)

other_meets : (k h : Hypothesis) (t : Bool) → (is_same k h || t) ≡ true → (k ≡ h → ⊥) → t ≡ true
other_meets k h t e n = by_test (is_same k h) (λ y. absurd (n (same_is k h y))) (λ f. rw f at e)

-- The rows, by computation: the tests, and what the two tables reply.
tests : Hypothesis → Row → List Bool
tests h r =
    passes r.older
    ∷ passes r.newer
    ∷ each (λ k. is_same k h || meets r.older r.newer k)
    ∷ outside r.older r.newer r.asked
    ∷ answered (ask r.older r.asked)
    ∷ not (eqb (code (ask r.newer r.asked)) (code (ask r.older r.asked)))
    ∷ []

abbrev Computed : Hypothesis → Row → Type 0
Computed h r =
    (all_of (tests h r) ≡ true) × (ask r.older r.asked ≡ r.older_says) × (ask r.newer r.asked ≡ r.newer_says)

computed : (h : Hypothesis) → Computed h (pair h)
unfolding written_out tests is_same outside answered is_answer code byte_code
computed same-n = (refl, refl, refl)
computed same_moduli = (refl, refl, refl)
computed same_offsets = (refl, refl, refl)
computed same-delimiter = (refl, refl, refl)
computed kept-starts = (refl, refl, refl)
computed kept-ends = (refl, refl, refl)
computed last_end = (refl, refl, refl)
computed kept-counts = (refl, refl, refl)
computed kept-times = (refl, refl, refl)
computed kept-rates = (refl, refl, refl)
computed further-counts = (refl, refl, refl)
computed no_step_back = (refl, refl, refl)

-- a hypothesis and all the others
all_says : (older newer : Table) (h : Hypothesis) → ((k : Hypothesis) → (k ≡ h → ⊥) → Says older newer k) → Says older newer h
    → (k : Hypothesis) → Says older newer k
all_says older newer h others s k =
    by_test (is_same k h) (λ y. rw (same_is k h y) s) (λ f. others k (λ e. not_both (is_same_lem k h e) f))

module _ (h : Hypothesis) where
  abbrev older : Table
  older = (pair h).older

  abbrev newer : Table
  newer = (pair h).newer

  tested : (i : ℕ) → get_or (tests h (pair h)) i true ≡ true
  tested i = all_of_at _ i (computed h).0

  accepted_older : Accepted older
  unfolding tests
  accepted_older = passes_accepted older (tested 0)

  accepted_newer : Accepted newer
  unfolding tests
  accepted_newer = passes_accepted newer (tested 1)

  others : (k : Hypothesis) → (k ≡ h → ⊥) → Says older newer k
  unfolding tests
  others k n = meets_says older newer k (other_meets k h _ (each_at (λ j. is_same j h || meets older newer j) (tested 2) k) n)

  fails : Demand3 older newer → ⊥
  unfolding tests
  fails d = not_both (eq-eqb _ _ (ap code (same_reply older newer d (pair h).asked (tested 3) (tested 4)))) (not-true _ (tested 5))

  pub needed : Needed h (pair h)
  needed =
      record {
        accepted_older = accepted_older;
        accepted_newer = accepted_newer;
        others = others;
        broken = λ s. fails (demand_3 older newer accepted_older accepted_newer (all_says older newer h others s));
        older_replies = (computed h).1;
        newer_replies = (computed h).2;
        fails = fails;
      }

pub seam_needed : SeamNeeded
unfolding is_same index
seam_needed s = fails no_step_back (at_seam (older no_step_back) (newer no_step_back) (accepted_older no_step_back) (accepted_newer no_step_back) all)
  where
    other : (k : Hypothesis) → is_same k no_step_back ≡ false → Says (older no_step_back) (newer no_step_back) k
    other k f = others no_step_back k (λ e. not_both (is_same_lem k no_step_back e) f)

    all : (k : Hypothesis) → SaysAtSeam (older no_step_back) (newer no_step_back) k
    all same-n = other same-n refl
    all same_moduli = other same_moduli refl
    all same_offsets = other same_offsets refl
    all same-delimiter = other same-delimiter refl
    all kept-starts = other kept-starts refl
    all kept-ends = other kept-ends refl
    all last_end = other last_end refl
    all kept-counts = other kept-counts refl
    all kept-times = other kept-times refl
    all kept-rates = other kept-rates refl
    all further-counts = other further-counts refl
    all no_step_back = s
