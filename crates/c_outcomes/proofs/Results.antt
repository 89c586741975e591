-- What each C call can give, from what the inner call can.
use Prim.Native.Nat.{ℕ, zero, suc, ◌^◌, ◌≤◌, ◌<◌}
use mathlib.Core.Path.{◌≡◌, refl, sym, ap, subst, ◌∙◌}
use mathlib.Core.Bool.{true, false, true≢false}
use mathlib.Core.List.{List, [], ◌∷◌}
use lib.Dec.{leb, eqb}
use lib.IntN.{pos, neg_ℤ}
use lib.ListN.{length, take}
use native.Mathlib.Omega.{arith}
use borrow.Author.Tests.{leb-true, ltb-true, eqb-true}
use Rattle.base.specs.Scans.{all, among}
use Rattle.base.proofs.Tests.{by_test, and_first, and_second}
use Rattle.rules.specs.Limits.{most_fields}
use Rattle.rules.specs.declared.TimeOfCount.{TimeOfCount}
use Rattle.rules.specs.Answer.{Answer, answer, refused, unless, and_then, Numbered}
use Rattle.rules.specs.Partitions.{Partitions}
use Rattle.rules.specs.Print.{fitting, print_count, print_stamp, length_printed}
use Rattle.rules.proofs.Answers.{payload, not_answer, unless-test, unless-rest, unless-at-none, unless-at-rest}
use Rattle.outcomes.specs.Refusals.{time_of_refusals}
use Rattle.outcomes.proofs.Refusals.{only_those}
use Rattle.roundtrip.specs.RoundTrip.{TenSlots, longest_count_print, longest_stamp_print}
use Rattle.roundtrip.proofs.Counts.{count_prints_short}
use Rattle.roundtrip.proofs.Stamps.{stamp_prints_short}
use Rattle.c_rules.specs.Numbers.{numbers, time_bytes}
use Rattle.c_rules.specs.Tables.{slots, fields_given, layout_from}
use Rattle.c_rules.specs.Calls.{returned, count_read, count_given, time_written, zero_given}
use Rattle.c_outcomes.specs.Results.{Gives, Results, Returnable, is_negative, NegativeIsRefused}
use Rattle.c_outcomes.proofs.Answers.{text-small, stamp-small, message-small, count_small}

-- the number in an answer, and the refusals as they are
gives : {A : Type 0} (f : A → ℕ) (a : Answer A) (most : ℕ) (ks : List ℕ) → ((x : A) → a ≡ answer x → f x ≤ most) → ((r : Numbered) → a ≡ refused r → among r.number ks ≡ true) → Gives most ks (and_then a (λ x. answer (f x)))
unfolding and_then
gives f (answer x) most ks small only = record { number = λ c h. subst (λ (y : ℕ). y ≤ most) (payload h) (small x refl); refusal = λ r h. absurd (not_answer (sym h)) }
gives f (refused k) most ks small only = record { number = λ c h. absurd (not_answer h); refusal = λ r h. let same : k ≡ r = cc in only r (ap refused same) }

length_is : (a : Answer (List ℕ)) → length_printed a ≡ and_then a (λ s. answer (length s))
unfolding length_printed and_then
length_is (answer s) = refl
length_is (refused k) = refl

length_slots : (k : ℕ) (xs : List ℕ) → length (slots k xs) ≡ k
unfolding slots
length_slots zero xs = refl
length_slots (suc k) [] = ap suc (length_slots k [])
length_slots (suc k) (x ∷ xs) = ap suc (length_slots k xs)

module _ (n d : ℕ) (moduli offsets : List ℕ) where
  ten : TenSlots (layout_from n d moduli offsets)
  ten = record { moduli = length_slots most_fields (take (fields_given n moduli offsets) (numbers moduli)); offsets = length_slots most_fields (take (fields_given n moduli offsets) (numbers offsets)) }

  count_length : (c room : ℕ) (s : List ℕ) → print_count (layout_from n d moduli offsets) c room ≡ answer s → length s ≤ longest_count_print
  unfolding print_count fitting
  count_length c room s h =
      let l = layout_from n d moduli offsets in
      let below = unless-rest 1 _ _ s h in
      subst (λ (x : List ℕ). length x ≤ longest_count_print) (payload (unless-rest 16 _ _ s (unless-rest 9 _ _ s below)))
      (count_prints_short l ten (unless-test 1 _ _ s h) c (ltb-true c _ (unless-test 9 _ _ s below)))

  stamp_length : (p : Partitions) (e room : ℕ) (s : List ℕ) → print_stamp (layout_from n d moduli offsets) p e room ≡ answer s → length s ≤ longest_stamp_print
  unfolding print_stamp fitting
  stamp_length p e room s h =
      let l = layout_from n d moduli offsets in
      let after = unless-rest 1 _ _ s h in
      let held = unless-at-rest 2 _ _ s after in
      subst (λ (x : List ℕ). length x ≤ longest_stamp_print) (payload (unless-rest 16 _ _ s (unless-rest 12 _ _ s held)))
      (stamp_prints_short l p ten (unless-test 1 _ _ s h) (rw (unless-at-none 2 _ _ s after)) e (leb-true e _ (unless-test 12 _ _ s held)))

-- a time's buffer adds 16
written_only : (a : Answer TimeOfCount) (room : ℕ) → ((r : Numbered) → a ≡ refused r → among r.number time_of_refusals ≡ true) → (r : Numbered) → time_written a room ≡ refused r → among r.number (16 ∷ time_of_refusals) ≡ true
unfolding time_written and_then fitting unless among
written_only (refused k) room only r h = let same : k ≡ r = cc in by_test (eqb r.number 16) (λ t. rw t) (λ f. rw (f, only r (ap refused same)))
written_only (answer t) room only r h =
    by_test (leb (length (time_bytes t.time)) room)
    (λ y. absurd (not_answer (sym (rw y at h))))
    (λ n. let e : 16 ≡ r.number = cc (rw n at h) in rw (← e))

pub results : Results
unfolding count_read count_given zero_given
results =
    record {
      text = λ l s. gives _ _ _ _ (text-small l s) (λ r h. (only_those.text l s r h).number);
      stamp = λ l p s. gives _ _ _ _ (stamp-small l p s) (λ r h. (only_those.stamp l p s r h).number);
      message = λ l p m. gives _ _ _ _ (message-small l p m) (λ r h. (only_those.message l p m r h).number);
      print_count_lem = λ n d ms os c room. rw (length_is (print_count (layout_from n d ms os) c room)) (gives _ _ _ _ (count_length n d ms os c room) (λ r h. (only_those.print_count_lem (layout_from n d ms os) c room r h).number));
      print_stamp_lem = λ n d ms os p e room. rw (length_is (print_stamp (layout_from n d ms os) p e room)) (gives _ _ _ _ (stamp_length n d ms os p e room) (λ r h. (only_those.print_stamp_lem (layout_from n d ms os) p e room r h).number));
      time_of_lem = λ l p g e room. gives _ _ _ _ (λ s h. omega arith) (written_only _ room (λ r h. (only_those.time_of_lem l p g e r h).number));
      count_at_lem = λ l p g t. gives _ _ _ _ (count_small l p g t) (λ r h. (only_those.count_at_lem l p g t r h).number);
    }

nonzero : (ks : List ℕ) → among 0 ks ≡ false → (k : ℕ) → among k ks ≡ true → 1 ≤ k
nonzero ks out zero h = absurd (true≢false (sym h ∙ out))
nonzero ks out (suc k) h = omega arith

negative_of : (k : ℕ) → 1 ≤ k → is_negative (neg_ℤ (pos k)) ≡ true
negative_of zero h = absurd (omega arith)
negative_of (suc k) h = refl

pub negative_is_refused : NegativeIsRefused
unfolding returned
negative_is_refused most ks (answer c) g out = refl
negative_is_refused most ks (refused r) g out = negative_of r.number (nonzero ks out r.number (g.refusal r refl))

-- every number of ks is at most 30
small_number : (k : ℕ) (ks : List ℕ) → all (λ x. leb x 30) ks ≡ true → among k ks ≡ true → k ≤ 30
unfolding all among
small_number k [] s h = absurd (true≢false (sym h))
small_number k (x ∷ ks) s h =
    by_test (eqb k x)
    (λ t. let e : k ≡ x = eqb-true k x t in rw e (leb-true x 30 (and_first (leb x 30) _ s)))
    (λ f. small_number k ks (and_second (leb x 30) _ s) (rw f at h))

-- so every result is an i64
pub returnable : (most : ℕ) (ks : List ℕ) (a : Answer ℕ) → Gives most ks a → most < 2 ^ 63 → among 0 ks ≡ false → all (λ x. leb x 30) ks ≡ true → Returnable a
returnable most ks a g small out few =
    record {
      number = λ c h. omega (arith, g.number c h);
      low = λ r h. nonzero ks out r.number (g.refusal r h);
      high = λ r h. omega (arith, small_number r.number ks few (g.refusal r h));
    }
