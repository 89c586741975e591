-- "A slice not in eights or a modulus or offset list under n is refused as the table it belongs to": that table is not accepted,
-- whatever the others are, so it is refused at its turn. So is a delimiter that is no code.
use Rattle.std.specs.Prelude.{ℕ, ◌/◌, ◌%◌, ◌<◌, ◌≡◌, false, List, length}
use Rattle.rules.specs.Limits.{most_fields, last_delimiter}
use Rattle.rules.specs.Layout.{layout_ok}
use Rattle.rules.specs.Partitions.{partitions_ok}
use Rattle.rules.specs.Segments.{segments_ok}
use Rattle.c_rules.specs.Tables.{layout_from, partitions_from, segments_from}

abbrev pub NotInEights : List ℕ → Type 0
NotInEights s = length s % 8 ≡ 0 → ⊥

-- a list of fewer than n whole numbers
abbrev pub Under : ℕ → List ℕ → Type 0
Under n s = length s / 8 < n

pub record Malformed : Type 0 where
  pub moduli : (n d : ℕ) (moduli offsets : List ℕ) → NotInEights moduli → layout_ok (layout_from n d moduli offsets) ≡ false
  pub offsets : (n d : ℕ) (moduli offsets : List ℕ) → NotInEights offsets → layout_ok (layout_from n d moduli offsets) ≡ false
  pub few_moduli : (n d : ℕ) (moduli offsets : List ℕ) → Under n moduli → layout_ok (layout_from n d moduli offsets) ≡ false
  pub few_offsets : (n d : ℕ) (moduli offsets : List ℕ) → Under n offsets → layout_ok (layout_from n d moduli offsets) ≡ false
  pub many_fields : (n d : ℕ) (moduli offsets : List ℕ) → most_fields < n → layout_ok (layout_from n d moduli offsets) ≡ false
  pub delimiter : (n d : ℕ) (moduli offsets : List ℕ) → last_delimiter < d → layout_ok (layout_from n d moduli offsets) ≡ false
  pub starts : (P : ℕ) (starts ends : List ℕ) → NotInEights starts → partitions_ok P (partitions_from starts ends) ≡ false
  pub ends : (P : ℕ) (starts ends : List ℕ) → NotInEights ends → partitions_ok P (partitions_from starts ends) ≡ false
  pub counts : (unit total : ℕ) (counts times rates : List ℕ) → NotInEights counts → segments_ok unit total (segments_from counts times rates) ≡ false
  pub times : (unit total : ℕ) (counts times rates : List ℕ) → NotInEights times → segments_ok unit total (segments_from counts times rates) ≡ false
  pub rates : (unit total : ℕ) (counts times rates : List ℕ) → NotInEights rates → segments_ok unit total (segments_from counts times rates) ≡ false
