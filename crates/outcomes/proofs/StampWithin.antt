-- The encoded count of a stamp that is read is at most the total.
use Prim.Native.Nat.{ℕ, ◌+◌, ◌-◌, ◌≤◌, ◌<◌}
use mathlib.Core.Path.{◌≡◌, refl, subst}
use mathlib.Core.Bool.{true}
use mathlib.Core.List.{List}
use mathlib.Core.Option.{Option, none, some}
use lib.Dec.{leb}
use borrow.Author.Tests.{le-leb, leb-true}
use native.Mathlib.Omega.{arith}
use Rattle.base.specs.Scans.{first_below}
use Rattle.base.proofs.Tests.{and_first, and_second}
use Rattle.base.proofs.Scans.{first_found, sum_next, sum_up}
use Rattle.rules.specs.declared.Layout.{Layout}
use Rattle.rules.specs.declared.Reading.{Reading}
use Rattle.rules.specs.Answer.{Answer, answer, refused, and_then, reading}
use Rattle.rules.specs.Partitions.{Partitions, partitions_in, start_of, end_of, length_of, lengths_before, total_of}
use Rattle.rules.specs.Stamp.{Parsed, named, unnamed, holds, encoded_in, encode_named, encode_found, encode_first, encode, read_stamp}
use Rattle.rules.proofs.Answers.{not_answer, unless-test, unless-rest, unless-at-rest}

module _ {A B : Type 0} (Q : B → Type 0) where
  -- what holds of every answer of a step holds of the answer after it
  then-answer : (a : Answer A) (f : A → Answer B) → ((x : A) → a ≡ answer x → (y : B) → f x ≡ answer y → Q y) → (y : B) → and_then a f ≡ answer y → Q y
  unfolding and_then
  then-answer (answer x) f g y h = g x refl y h
  then-answer (refused k) f g y h = absurd (not_answer h)

module _ (p : Partitions) (c : ℕ) where
  pub encoded_within : (i : ℕ) → i < partitions_in p → holds p c i ≡ true → encoded_in p c i ≤ total_of p
  unfolding holds encoded_in total_of lengths_before
  encoded_within i b h =
      let to = leb-true c (end_of p i) (and_second (leb (start_of p i) c) _ h) in
      omega (arith, to, sum_next (length_of p) i, sum_up (length_of p) (i + 1) (partitions_in p) (omega arith))

  named_within : (k e : ℕ) → encode_named p k c ≡ answer e → e ≤ total_of p
  unfolding encode_named
  named_within k e h =
      let t = unless-test 10 _ _ e h in
      let h1 = unless-rest 10 _ _ e h in
      let same : encoded_in p c (k - 1) ≡ e = cc (unless-rest 11 _ _ e h1) in
      let low = leb-true 1 k (and_first (leb 1 k) _ t) in
      let high = leb-true k (partitions_in p) (and_second (leb 1 k) _ t) in
      subst (λ x. x ≤ total_of p) same (encoded_within (k - 1) (omega arith) (unless-test 11 _ _ e h1))

  found_within : (o : Option ℕ) → first_below (holds p c) (partitions_in p) ≡ o → (e : ℕ) → encode_found p c o ≡ answer e → e ≤ total_of p
  unfolding encode_found
  found_within none q e h = absurd (not_answer h)
  found_within (some i) q e h =
      let f = first_found (holds p c) (partitions_in p) i q in
      let same : encoded_in p c i ≡ e = cc in
      subst (λ x. x ≤ total_of p) same (encoded_within i f.below f.holds)

module _ (p : Partitions) where
  abbrev Within : Reading → Type 0
  Within r = r.count ≤ total_of p

  read_within : (e : ℕ) → e ≤ total_of p → (r : Reading) → answer (reading e) ≡ answer r → Within r
  read_within e b r h = let same : reading e ≡ r = cc in subst Within same b

  encode_within : (x : Parsed) (r : Reading) → encode p x ≡ answer r → Within r
  unfolding encode encode_first
  encode_within (named k c) = then-answer Within _ _ (λ e h. read_within e (named_within p c.count k e h))
  encode_within (unnamed c) = then-answer Within _ _ (λ e h. read_within e (found_within p c.count _ refl e h))

pub stamp_within : (l : Layout) (p : Partitions) (s : List ℕ) (r : Reading) → read_stamp l p s ≡ answer r → leb r.count (total_of p) ≡ true
unfolding read_stamp
stamp_within l p s r h =
    le-leb r.count (total_of p) (then-answer (Within p) _ (encode p) (λ x _. encode_within p x) r (unless-at-rest 2 _ _ r (unless-rest 1 _ _ r h)))
