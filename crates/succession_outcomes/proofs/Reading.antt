-- A stamp that the newer reads to a count below the older's total: the older reads it so.
use Prim.Native.Nat.{ℕ, ◌+◌, ◌-◌, ◌≤◌, ◌<◌}
use native.Mathlib.Omega.{arith}
use mathlib.Core.Path.{◌≡◌, refl, sym}
use mathlib.Core.Bool.{true, ◌&&◌}
use mathlib.Core.List.{List}
use mathlib.Core.Option.{Option, none, some}
use lib.Dec.{leb, ltb}
use borrow.Author.Tests.{leb-true, le-leb, ltb-true, ltb-false}
use Rattle.base.specs.Scans.{first_below}
use Rattle.base.proofs.Tests.{by_test, not_both, and_both, and_first, and_second}
use Rattle.base.proofs.Scans.{First, first_found, first_is}
use Rattle.rules.specs.declared.Reading.{Reading}
use Rattle.rules.specs.Answer.{Answer, answer, refused, reading, unless, and_then}
use Rattle.rules.specs.Layout.{moduli_of, offsets_of}
use Rattle.rules.specs.Partitions.{Partitions, partitions_in, start_of, end_of, lengths_before, total_of}
use Rattle.rules.specs.Stamp.{holds, encoded_in, encode_named, encode_found, encode_first, Parsed, named, unnamed, encode, parse_stamp, read_stamp}
use Rattle.rules.proofs.Answers.{payload, not_answer, unless-test, unless-rest}
use Rattle.versions.specs.Versions.{Table, Accepted, read_by}
use Rattle.versions.proofs.Layouts.{OneLayout}
use Rattle.versions.proofs.Partitions.{KeptPartitions, last_of, last_in, before_next, before_up, before_same, total_through, through_up}
use Rattle.versions.proofs.Reading.{holds_up, encoded_same}
use Rattle.versions.proofs.Demand3.{through_two}

module _ (p q : Partitions) (kept : KeptPartitions p q) (c : ℕ) where
  -- what partition i of the newer holds, below the older's total
  module _ (i : ℕ) (b : i < partitions_in q) (here : holds q c i ≡ true) (below : encoded_in q c i < total_of p) where
    low : start_of q i ≤ c
    unfolding holds
    low = leb-true _ _ (and_first (leb (start_of q i) c) _ here)

    high : c ≤ end_of q i
    unfolding holds
    high = leb-true _ _ (and_second (leb (start_of q i) c) _ here)

    before : lengths_before q i < total_of p
    unfolding encoded_in
    before = omega (arith, below)

    -- it is one of the older's
    pub old_row : i < partitions_in p
    old_row =
        by_test (ltb i (partitions_in p))
        (λ t. ltb-true _ _ t)
        (λ f. let l = last_of p in
        let e : l + 1 ≡ partitions_in p = omega (arith, kept.some) in
        absurd (omega (arith, before, total_through p q kept, through_up p q kept l (last_in p q kept), before_up q (l + 1) i (omega (arith, ltb-false i (partitions_in p) f)))))

    last_high : i + 1 ≡ partitions_in p → c ≤ end_of p i
    unfolding encoded_in
    last_high e =
        let k : last_of p ≡ i = omega arith in
        let whole : total_of p ≡ lengths_before p (i + 1) = rw k at (total_through p q kept) in
        omega (arith, below, low, kept.starts i old_row, before_same p q kept i old_row, whole, before_next p i)

    old_high : c ≤ end_of p i
    old_high =
        by_test (ltb (i + 1) (partitions_in p))
        (λ t. let e = kept.ends i (ltb-true _ _ t) in omega (arith, high))
        (λ f. last_high (omega (arith, old_row, ltb-false (i + 1) (partitions_in p) f)))

    pub old_holds : holds p c i ≡ true
    unfolding holds
    old_holds = and_both (le-leb (start_of p i) c (omega (arith, low, kept.starts i old_row))) (le-leb c (end_of p i) old_high)

    pub old_encoded : encoded_in p c i ≡ encoded_in q c i
    old_encoded = sym (encoded_same p q kept c i old_row)

  named_back : (k e : ℕ) → encode_named q k c ≡ answer e → e < total_of p → encode_named p k c ≡ answer e
  unfolding encode_named unless
  named_back k e h below =
      let t = unless-test 10 (leb 1 k && leb k (partitions_in q)) _ e h in
      let h1 = unless-rest 10 (leb 1 k && leb k (partitions_in q)) _ e h in
      let here = unless-test 11 (holds q c (k - 1)) _ e h1 in
      let same : encoded_in q c (k - 1) ≡ e = payload (unless-rest 11 (holds q c (k - 1)) _ e h1) in
      let one = leb-true 1 k (and_first (leb 1 k) _ t) in
      let few = leb-true k (partitions_in q) (and_second (leb 1 k) _ t) in
      let b : k - 1 < partitions_in q = omega arith in
      let under : encoded_in q c (k - 1) < total_of p = omega arith in
      let old = old_row (k - 1) b here under in
      rw (le-leb 1 k one, le-leb k (partitions_in p) (omega arith), old_holds (k - 1) b here under, old_encoded (k - 1) b here under, same)

  -- the first that holds it in the newer is the first in the older
  first_back : (i : ℕ) → First (holds q c) (partitions_in q) i → encoded_in q c i < total_of p → First (holds p c) (partitions_in p) i
  first_back i w under =
      let old = old_row i w.below w.holds under in
      record {
        below = old;
        holds = old_holds i w.below w.holds under;
        before = λ j b. by_test (holds p c j) (λ t. absurd (not_both (holds_up p q kept c j (omega arith) t) (w.before j b))) (λ f. f);
      }

  found_back : (o : Option ℕ) → first_below (holds q c) (partitions_in q) ≡ o → (e : ℕ) → encode_found q c o ≡ answer e → e < total_of p → encode_first p c ≡ answer e
  unfolding encode_first encode_found
  found_back none s e h below = absurd (not_answer h)
  found_back (some i) s e h below =
      let w = first_found (holds q c) (partitions_in q) i s in
      let same : encoded_in q c i ≡ e = payload h in
      let under : encoded_in q c i < total_of p = omega arith in
      rw (first_is (holds p c) (partitions_in p) i (first_back i w under), old_encoded i w.below w.holds under, same)

-- a step that keeps the answer keeps what follows
then-back : {A B : Type 0} (a b : Answer A) (f g : A → Answer B) (y : B) → ((x : A) → a ≡ answer x → f x ≡ answer y → and_then b g ≡ answer y) → and_then a f ≡ answer y → and_then b g ≡ answer y
unfolding and_then
then-back (answer x) b f g y s h = s x refl h
then-back (refused k) b f g y s h = absurd (not_answer h)

module _ (p q : Partitions) (kept : KeptPartitions p q) where
  given : {a : Answer ℕ} (e : ℕ) (r : Reading) → a ≡ answer e → answer (reading e) ≡ answer r → and_then a (λ e. answer (reading e)) ≡ answer r
  unfolding and_then
  given {a} e r h s = rw h s

  count_of : (e : ℕ) (r : Reading) → answer (reading e) ≡ answer r → r.count < total_of p → e < total_of p
  count_of e r s l = let same : reading e ≡ r = payload s in rw (← same) at l

  encode_back : (x : Parsed) (r : Reading) → encode q x ≡ answer r → r.count < total_of p → encode p x ≡ answer r
  unfolding encode
  encode_back (named k t) r h below =
      then-back (encode_named q k t.count) (encode_named p k t.count) _ _ r
      (λ e m s. given e r (named_back p q kept t.count k e m (count_of e r s below)) s) h
  encode_back (unnamed t) r h below =
      then-back (encode_first q t.count) (encode_first p t.count) _ _ r
      (λ e m s. given e r (first_of e m (count_of e r s below)) s) h
    where
      first_of : (e : ℕ) → encode_first q t.count ≡ answer e → e < total_of p → encode_first p t.count ≡ answer e
      first_of e m l = found_back p q kept t.count (first_below (holds q t.count) (partitions_in q)) refl e (unfold encode_first in m) l

pub newer_read : (older newer : Table) → Accepted older → Accepted newer → OneLayout older.layout newer.layout → KeptPartitions older.partitions newer.partitions
    → (s : List ℕ) (r : Reading) → read_by newer s ≡ answer r → r.count < total_of older.partitions → read_by older s ≡ answer r
unfolding read_stamp
newer_read older newer was is one rows s r h below =
    let parsed = parse_stamp (moduli_of older.layout) (offsets_of older.layout) s in
    let new : and_then parsed (encode newer.partitions) ≡ answer r = rw (through_two newer is, one.moduli, one.offsets) at h in
    rw (through_two older was) (then-back parsed parsed (encode newer.partitions) (encode older.partitions) r (λ x e k. again parsed x e (encode_back _ _ rows x r k below)) new)
  where
    again : (a : Answer Parsed) (x : Parsed) → a ≡ answer x → encode older.partitions x ≡ answer r → and_then a (encode older.partitions) ≡ answer r
    again a x e k = unfold and_then in rw e k
