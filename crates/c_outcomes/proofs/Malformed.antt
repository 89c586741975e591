-- Malformed slices: their table has no rows or no fields.
use Prim.Native.Nat.{ℕ, ◌/◌, ◌%◌, ◌≤◌, ◌<◌}
use mathlib.Core.Path.{◌≡◌, refl, sym, ◌∙◌}
use mathlib.Core.Bool.{Bool, true, false, ◌&&◌}
use mathlib.Core.List.{List}
use lib.Dec.{leb, eqb}
use lib.ListN.{length}
use native.Mathlib.Omega.{arith}
use Rattle.base.proofs.Tests.{by_test}
use Rattle.rules.specs.Limits.{most_fields, last_delimiter}
use Rattle.rules.specs.Layout.{layout_ok}
use Rattle.rules.specs.Partitions.{partitions_ok}
use Rattle.rules.specs.Segments.{Segments, segments_ok}
use Rattle.rules.proofs.Accepted.{layout_facts, partitions_facts, segments_facts}
use Rattle.c_rules.specs.Numbers.{numbers_in}
use Rattle.c_rules.specs.Tables.{fields_given, layout_from, partitions_from, segments_from}
use Rattle.c_rules.proofs.Bytes.{not_in_eights, length_numbers, length_times}
use Rattle.c_rules.proofs.Slots.{moduli_enough, offsets_enough, under_moduli, under_offsets, no_code}
use Rattle.c_outcomes.specs.Malformed.{NotInEights, Under, Malformed}

-- what cannot hold is false
not_so : (b : Bool) → (b ≡ true → ⊥) → b ≡ false
not_so true h = absurd (h refl)
not_so false h = refl

none_in : (s : List ℕ) → NotInEights s → numbers_in s ≡ 0
none_in s h = sym (length_numbers s) ∙ sym (not_in_eights s h)

most_in : (s : List ℕ) → numbers_in s ≤ length s / 8
unfolding numbers_in
most_in s = by_test (eqb (length s % 8) 0) (λ t. rw t (omega arith)) (λ f. rw f (omega arith))

module _ (n d : ℕ) (moduli offsets : List ℕ) where
  no_fields : fields_given n moduli offsets ≡ 0 → layout_ok (layout_from n d moduli offsets) ≡ false
  no_fields e = not_so _ (λ ok. let some = (layout_facts (layout_from n d moduli offsets) ok).fields in omega arith)

  bad_moduli : NotInEights moduli → layout_ok (layout_from n d moduli offsets) ≡ false
  bad_moduli h = no_fields (omega (arith, moduli_enough n moduli offsets, none_in moduli h))

  bad_offsets : NotInEights offsets → layout_ok (layout_from n d moduli offsets) ≡ false
  bad_offsets h = no_fields (omega (arith, offsets_enough n moduli offsets, none_in offsets h))

  few_moduli : Under n moduli → layout_ok (layout_from n d moduli offsets) ≡ false
  few_moduli h = no_fields (under_moduli n moduli offsets (omega (arith, most_in moduli)))

  few_offsets : Under n offsets → layout_ok (layout_from n d moduli offsets) ≡ false
  few_offsets h = no_fields (under_offsets n moduli offsets (omega (arith, most_in offsets)))

  too_many : most_fields < n → layout_ok (layout_from n d moduli offsets) ≡ false
  unfolding fields_given
  too_many h =
      by_test (leb n (numbers_in moduli) && leb n (numbers_in offsets))
      (λ t. not_so _ (λ ok. let few = (layout_facts (layout_from n d moduli offsets) ok).few_fields in let e : fields_given n moduli offsets ≡ n = rw t in omega (arith, e)))
      (λ f. no_fields (rw f))

  bad_code : last_delimiter < d → layout_ok (layout_from n d moduli offsets) ≡ false
  bad_code h = not_so _ (λ ok. let low = (layout_facts (layout_from n d moduli offsets) ok).delimiter_low in omega (arith, no_code d h))

module _ (P : ℕ) (starts ends : List ℕ) where
  bad_starts : NotInEights starts → partitions_ok P (partitions_from starts ends) ≡ false
  bad_starts h = not_so _ (λ ok. let f = partitions_facts P (partitions_from starts ends) ok in omega (arith, f.some, not_in_eights starts h))

  bad_ends : NotInEights ends → partitions_ok P (partitions_from starts ends) ≡ false
  bad_ends h = not_so _ (λ ok. let f = partitions_facts P (partitions_from starts ends) ok in omega (arith, f.some, f.one_length, not_in_eights ends h))

module _ (unit total : ℕ) (counts ts rates : List ℕ) where
  abbrev g : Segments
  g = segments_from counts ts rates

  bad_counts : NotInEights counts → segments_ok unit total g ≡ false
  bad_counts h = not_so _ (λ ok. let f = segments_facts unit total g ok in omega (arith, f.some, not_in_eights counts h))

  bad_times : NotInEights ts → segments_ok unit total g ≡ false
  bad_times h = not_so _ (λ ok. let f = segments_facts unit total g ok in omega (arith, f.some, f.times_length, length_times ts, not_in_eights ts h))

  bad_rates : NotInEights rates → segments_ok unit total g ≡ false
  bad_rates h = not_so _ (λ ok. let f = segments_facts unit total g ok in omega (arith, f.some, f.rates_length, not_in_eights rates h))

pub malformed : Malformed
malformed =
    record {
      moduli = bad_moduli;
      offsets = bad_offsets;
      few_moduli = few_moduli;
      few_offsets = few_offsets;
      many_fields = too_many;
      delimiter = bad_code;
      starts = bad_starts;
      ends = bad_ends;
      counts = bad_counts;
      times = bad_times;
      rates = bad_rates;
    }
