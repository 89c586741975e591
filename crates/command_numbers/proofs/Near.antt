-- For callers: a count or a time that is capped is answered as it would be without the cap.
use Rattle.rules.specs.declared.refusal.Refusal.{Refusal}
use Rattle.std.specs.Prelude.{Result, Ok, Err}
use Prim.Native.Nat.{ℕ, ◌-◌, ◌≤◌, ◌<◌, min}
use mathlib.Core.Path.{◌≡◌, refl, sym, ap, ◌∙◌}
use mathlib.Core.Bool.{true, false, ◌&&◌}
use lib.IntN.{ℤ, pos, negsuc}
use lib.Dec.{leb}
use lib.Signed.{le_z}
use native.Mathlib.Omega.{arith}
use borrow.Author.Tests.{lt-leb, leb-true, leb-false}
use Rattle.base.proofs.Tests.{by_test, not_both, and_both, and_first, and_out_first}
use Rattle.rules.specs.Limits.{earliest_time, latest_time}
use Rattle.rules.specs.declared.Layout.{Layout}
use Rattle.rules.specs.Answer.{Answer, answer, refused, unless, and_then, Numbered, as_numbered, answer_of}
use Rattle.rules.proofs.Answers.{payload, not_answer}
use Rattle.rules.specs.Partitions.{Partitions, total_of}
use Rattle.rules.specs.Segments.{Segments}
use Rattle.rules.specs.Accepted.{accepted_stamps, accepted}
use Rattle.rules.specs.Print.{fitting, stamp_print, print_stamp}
use Rattle.rules.specs.Time.{count_in, count_at}
use Rattle.tables.specs.declared.Basis.{Basis}
use Rattle.tables.specs.Accept.{StampsFacts}
use Rattle.command_numbers.specs.Given.{number_cap, near_count, near_time, capped_count, capped_time}

-- a count up to a total, under the cap and without it
near_count_lem : {A : Type 0} (total n : ℕ) (f : ℕ → Answer A) → total < number_cap → unless 12 (leb (near_count n) total) (f (near_count n)) ≡ unless 12 (leb n total) (f n)
unfolding unless near_count
near_count_lem total n f h =
    by_test (leb n total)
    (λ t. let same : min n number_cap ≡ n = small (leb-true n total t) in rw same)
    (λ u. rw (u, lt-leb (min n number_cap) total (large (leb-false n total u))))
  where
    small : n ≤ total → min n number_cap ≡ n
    small l = omega arith

    large : total < n → total < min n number_cap
    large l = omega arith

-- both are above the total of accepted tables, or neither
pub print_near : (l : Layout) (p : Partitions) (b : Basis) → StampsFacts l p b → (n room : ℕ) → print_stamp l p (near_count n) room ≡ print_stamp l p n room
unfolding print_stamp
print_near l p b w n room =
    let small = w.partitions.total in
    ap (accepted_stamps l p) (near_count_lem (total_of p) n (λ e. fitting room (stamp_print l p e)) (omega arith))

-- a time within the range is not capped, and a capped one is not within it
near_within : (t : ℤ) → (le_z earliest_time t && le_z t latest_time) ≡ true → near_time t ≡ t
unfolding near_time
near_within (pos n) h = let l = leb-true n _ h in let e : min n number_cap ≡ n = omega arith in rw e
near_within (negsuc n) h = let l = leb-true n _ (and_first _ _ h) in let e : min n (number_cap - 1) ≡ n = omega arith in rw e

near_outside : (t : ℤ) → (le_z earliest_time t && le_z t latest_time) ≡ false → (le_z earliest_time (near_time t) && le_z (near_time t) latest_time) ≡ false
unfolding near_time
near_outside (pos n) h = let l = leb-false n _ h in lt-leb (min n number_cap) _ (omega arith)
near_outside (negsuc n) h = by_test (le_z earliest_time (negsuc n)) (λ t. absurd (not_both (and_both t refl) h)) (λ f. and_out_first true (let l = leb-false n _ f in lt-leb (min n (number_cap - 1)) _ (omega arith)))

pub count_near : (l : Layout) (p : Partitions) (g : Segments) (t : ℤ) → count_at l p g (near_time t) ≡ count_at l p g t
unfolding count_at count_in unless
count_near l p g t =
    ap (accepted l p g)
    (by_test (le_z earliest_time t && le_z t latest_time)
    (λ h. rw (near_within t h))
    (λ f. rw (f, near_outside t f)))

-- What follows a count that was read, of a call f for which the cap plays no part: its answer, or the refusal.
module _ {A : Type 0} (f : ℕ → Answer A) where
  count_answered : ((n : ℕ) → f (near_count n) ≡ f n) → (a : Answer ℕ) (n : ℕ) → answer n ≡ capped_count a → f n ≡ and_then a f
  unfolding capped_count and_then
  count_answered same (answer m) n g = ap f (payload g) ∙ same m
  count_answered same (refused k) n g = absurd (not_answer (sym g))

  count_passed : (a : Answer ℕ) (k : Numbered) → refused k ≡ capped_count a → refused k ≡ and_then a f
  unfolding capped_count and_then
  count_passed (answer m) k g = absurd (not_answer g)
  count_passed (refused j) k g = cc

  module _ (q : Result ℕ Refusal) (a : Answer ℕ) (e : answer_of q ≡ capped_count a) where
    pub count_then : ((n : ℕ) → f (near_count n) ≡ f n) → (n : ℕ) → q ≡ Ok n → f n ≡ and_then a f
    count_then same n h = count_answered same a n (rw h at e)

    pub count_refused : (k : Refusal) → q ≡ Err k → refused (as_numbered k) ≡ and_then a f
    count_refused k h = count_passed a (as_numbered k) (rw h at e)

-- the same of a time
module _ {A : Type 0} (f : ℤ → Answer A) where
  time_answered : ((t : ℤ) → f (near_time t) ≡ f t) → (a : Answer ℤ) (t : ℤ) → answer t ≡ capped_time a → f t ≡ and_then a f
  unfolding capped_time and_then
  time_answered same (answer m) t g = ap f (payload g) ∙ same m
  time_answered same (refused k) t g = absurd (not_answer (sym g))

  time_passed : (a : Answer ℤ) (k : Numbered) → refused k ≡ capped_time a → refused k ≡ and_then a f
  unfolding capped_time and_then
  time_passed (answer m) k g = absurd (not_answer g)
  time_passed (refused j) k g = cc

  module _ (q : Result ℤ Refusal) (a : Answer ℤ) (e : answer_of q ≡ capped_time a) where
    pub time_then : ((t : ℤ) → f (near_time t) ≡ f t) → (t : ℤ) → q ≡ Ok t → f t ≡ and_then a f
    time_then same t h = time_answered same a t (rw h at e)

    pub time_refused : (k : Refusal) → q ≡ Err k → refused (as_numbered k) ≡ and_then a f
    time_refused k h = time_passed a (as_numbered k) (rw h at e)
