-- Stamps: those of one partition as their counts, those of two by their partitions.
use Prim.Native.Nat.{ℕ, suc, ◌+◌, ◌≤◌, ◌<◌}
use mathlib.Core.Path.{◌≡◌, refl, sym, ap, ◌∙◌}
use mathlib.Core.Bool.{true}
use mathlib.Core.List.{List, ◌∷◌, ◌++◌}
use lib.Dec.{leb, ltb}
use lib.ListN.{length, length-append}
use borrow.Author.Tests.{lt-ltb, le-ltb, eq-eqb, ne_eqb, ltb-true, ltb-false, leb-true, leb-false}
use native.Mathlib.Nat.{max-eq_right}
use native.Mathlib.Omega.{arith}
use Rattle.base.proofs.Tests.{by_test, leb_same}
use Rattle.rules.specs.declared.Layout.{Layout}
use Rattle.rules.specs.Layout.{layout_ok, product_of}
use Rattle.rules.specs.Partitions.{Partitions, lengths_before, partitions_ok, total_of}
use Rattle.rules.proofs.Accepted.{partitions_facts}
use Rattle.rules.specs.Print.{digit_count, last_digits, padded, count_print, partition_of, decoded_in, stamp_print}
use Rattle.roundtrip.specs.RoundTrip.{TenSlots}
use Rattle.roundtrip.proofs.Digits.{digits_some, digits_grow, digits_enough, last_length, padded_length}
use Rattle.roundtrip.proofs.Encoded.{Lies, lies, before_up}
use Rattle.roundtrip.proofs.Ends.{stamp_count_below_p}
use Rattle.print_order.specs.Order.{sorts_before, shorter_or_before, stamp_length, StampsOneLength, StampsInOrder, StampsByLength, StampsByNumber}
use Rattle.print_order.proofs.Bytes.{sorts_rest, sorts_front, sorts_same, sorts_one_way}
use Rattle.print_order.proofs.Fields.{digits_sort}
use Rattle.print_order.proofs.Counts.{counts_one_length, counts_in_order}

-- numbers of equally many digits, whatever follows them
numbers_sort : (x y : ℕ) (s t : List ℕ) → x < y → digit_count x ≡ digit_count y → sorts_before (padded 1 x ++ s) (padded 1 y ++ t) ≡ true
unfolding padded
numbers_sort x y s t less same =
    rw (max-eq_right (digits_some x), max-eq_right (digits_some y), same)
    (sorts_front (last_digits (digit_count y) x) (last_digits (digit_count y) y) s t
    (last_length (digit_count y) x ∙ sym (last_length (digit_count y) y))
    (digits_sort (digit_count y) x y less (digits_enough y)))

module _ (l : Layout) (p : Partitions) (t : TenSlots l) (ok : layout_ok l ≡ true) (good : partitions_ok (product_of l) p ≡ true) where
  place : (e : ℕ) → e ≤ total_of p → Lies p e (partition_of p e)
  place e h = lies p e (partitions_facts (product_of l) p good).some h

  numbered : (i c d : ℕ) → c < product_of l → d < product_of l → sorts_before (padded 1 (i + 1) ++ (47 ∷ count_print l c)) (padded 1 (i + 1) ++ (47 ∷ count_print l d)) ≡ ltb c d
  numbered i c d h k = sorts_same (padded 1 (i + 1)) _ _ ∙ sorts_rest 47 47 _ _ refl ∙ counts_in_order l t ok c d h k

  -- the counts of one partition grow as the encoded counts do
  decoded_grow : (e f i : ℕ) → lengths_before p i ≤ e → lengths_before p i ≤ f → ltb (decoded_in p e i) (decoded_in p f i) ≡ ltb e f
  unfolding decoded_in
  decoded_grow e f i h k = leb_same (suc (decoded_in p e i)) (decoded_in p f i) (suc e) f (λ less. omega arith) (λ less. omega arith)

  in_one : (e f : ℕ) → e ≤ total_of p → f ≤ total_of p → partition_of p e ≡ partition_of p f → sorts_before (stamp_print l p e) (stamp_print l p f) ≡ ltb e f
  unfolding stamp_print
  in_one e f h k same =
      rw same
      (numbered (partition_of p f) _ _ (rw same at (stamp_count_below_p (product_of l) p good e h)) (stamp_count_below_p (product_of l) p good f k)
      ∙ decoded_grow e f (partition_of p f) (rw same at (place e h).from) (place f k).from)

  -- an earlier partition has the smaller encoded counts
  earlier : (e f : ℕ) → e ≤ total_of p → f ≤ total_of p → partition_of p e < partition_of p f → e < f
  earlier e f h k less =
      by_test (ltb e f)
      (λ l. ltb-true e f l)
      (λ g. absurd (not_same (omega (arith, ltb-false e f g, (place e h).to, (place f k).from, before_up p (partition_of p e + 1) (partition_of p f) (omega arith)))))
    where
      not_same : e ≡ f → ⊥
      not_same s = omega (arith, ap (partition_of p) s)

  -- two partitions: the same, or one of them is the earlier
  by_partition : {A : Type 0} (e f : ℕ) → (partition_of p e < partition_of p f → A) → (partition_of p e ≡ partition_of p f → A) → (partition_of p f < partition_of p e → A) → A
  by_partition e f less same more =
      by_test (ltb (partition_of p e) (partition_of p f))
      (λ y. less (ltb-true _ _ y))
      (λ n. by_test (ltb (partition_of p f) (partition_of p e)) (λ y. more (ltb-true _ _ y)) (λ m. same (omega (arith, ltb-false (partition_of p e) (partition_of p f) n, ltb-false (partition_of p f) (partition_of p e) m))))

pub stamps_one_length : StampsOneLength
unfolding stamp_print stamp_length
stamps_one_length l p t ok good e h =
    rw (length-append, padded_length, counts_one_length l t ok _ (stamp_count_below_p (product_of l) p good e h))
    (omega (arith, digits_some (partition_of p e + 1)))

pub stamps_in_order : StampsInOrder
unfolding stamp_print
stamps_in_order l p t ok good e f h k digits =
    by_partition l p t ok good e f
    (λ less. rw (lt-ltb e f (earlier l p t ok good e f h k less)) (numbers_sort _ _ _ _ (omega arith) digits))
    (λ same. in_one l p t ok good e f h k same)
    (λ more. rw (le-ltb e f (omega (arith, earlier l p t ok good f e k h more))) (sorts_one_way _ _ (numbers_sort _ _ _ _ (omega arith) (sym digits))))

-- the shorter stamp has the smaller encoded count
shorter_earlier : (l : Layout) (p : Partitions) → TenSlots l → layout_ok l ≡ true → partitions_ok (product_of l) p ≡ true → (e f : ℕ) → e ≤ total_of p → f ≤ total_of p
    → length (stamp_print l p e) < length (stamp_print l p f) → e < f
unfolding stamp_length
shorter_earlier l p t ok good e f h k less =
    by_test (leb (partition_of p f) (partition_of p e))
    (λ y. absurd (omega (arith, stamps_one_length l p t ok good e h, stamps_one_length l p t ok good f k, digits_grow (partition_of p f + 1) (partition_of p e + 1) (omega (arith, leb-true (partition_of p f) (partition_of p e) y)))))
    (λ n. earlier l p t ok good e f h k (leb-false (partition_of p f) (partition_of p e) n))

pub stamps_by_length : StampsByLength
unfolding shorter_or_before stamp_length
stamps_by_length l p t ok good e f h k =
    by_test (ltb i j)
    (λ y. rw (y, lt-ltb e f (shorter_earlier l p t ok good e f h k (ltb-true i j y))))
    (λ n. by_test (ltb j i)
    (λ y. let more = ltb-true j i y in
    rw (n, ne_eqb i j (λ s. omega arith), le-ltb e f (omega (arith, shorter_earlier l p t ok good f e k h more))))
    (λ m. let same : i ≡ j = omega (arith, ltb-false i j n, ltb-false j i m) in
    rw (n, eq-eqb i j same)
    (stamps_in_order l p t ok good e f h k (omega (arith, stamps_one_length l p t ok good e h, stamps_one_length l p t ok good f k)))))
  where
    i : ℕ
    i = length (stamp_print l p e)

    j : ℕ
    j = length (stamp_print l p f)

pub stamps_by_number : StampsByNumber
stamps_by_number l p t ok good e f h k =
    by_partition l p t ok good e f
    (λ less. rw (lt-ltb i j less, lt-ltb e f (earlier l p t ok good e f h k less)))
    (λ same. rw (le-ltb i j (omega arith), eq-eqb i j same) (in_one l p t ok good e f h k same))
    (λ more. rw (le-ltb i j (omega arith), ne_eqb i j (λ s. omega arith), le-ltb e f (omega (arith, earlier l p t ok good f e k h more))))
  where
    i : ℕ
    i = partition_of p e

    j : ℕ
    j = partition_of p f
