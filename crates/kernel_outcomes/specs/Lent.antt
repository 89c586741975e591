-- What an answer tells of the tables, and of the lent lists afterwards.
use Rattle.std.specs.Prelude.{◌≡◌, true, List, length, take, drop}
use Rattle.rules.specs.declared.Layout.{Layout}
use Rattle.rules.specs.Layout.{moduli_of, offsets_of, layout_ok, product_of, unit_of}
use Rattle.rules.specs.Partitions.{Partitions, partitions, total_of, partitions_ok}
use Rattle.rules.specs.Segments.{Segments, segments, segments_ok}
use Rattle.kernel_rules.specs.Tables.{Lists, Tables, layout_in, partitions_in, segments_in}

-- none of 1, 2 and 3 applies to the tables
pub record Accepted (t : Tables) : Type 0 where
  pub moduli_length : length t.lists.moduli ≡ t.n
  pub offsets_length : length t.lists.offsets ≡ t.n
  pub layout : layout_ok (layout_in t) ≡ true
  pub partitions : partitions_ok (product_of (layout_in t)) (partitions_in t.lists) ≡ true
  pub segments : segments_ok (unit_of (layout_in t)) (total_of (partitions_in t.lists)) (segments_in t.lists) ≡ true

-- A lent list after the call: its front is what was read, its rest and its length are as before.
pub record Written {A : Type 0} (s before after : List A) : Type 0 where
  pub front : take (length s) after ≡ s
  pub rest : drop (length s) after ≡ drop (length s) before
  pub same_length : length after ≡ length before

pub record AllWritten (g before after : Lists) : Type 0 where
  pub moduli : Written g.moduli before.moduli after.moduli
  pub offsets : Written g.offsets before.offsets after.offsets
  pub starts : Written g.starts before.starts after.starts
  pub ends : Written g.ends before.ends after.ends
  pub counts : Written g.counts before.counts after.counts
  pub times : Written g.times before.times after.times
  pub rates : Written g.rates before.rates after.rates

-- A layout made of the answer: its n, its delimiter, and the fronts of the two lists afterwards. What it has in further slots is not said.
pub record LayoutOf (t : Tables) (after : Lists) (l : Layout) : Type 0 where
  pub n : l.n ≡ t.n
  pub delimiter : l.delimiter ≡ t.delimiter
  pub moduli : moduli_of l ≡ take t.n after.moduli
  pub offsets : offsets_of l ≡ take t.n after.offsets

-- the tables that a caller makes of the lists afterwards, by the two lengths of the answer
unfoldable pub partitions_from : Tables → Lists → Partitions
partitions_from t after = partitions (take (length t.lists.starts) after.starts) (take (length t.lists.starts) after.ends)

unfoldable pub segments_from : Tables → Lists → Segments
segments_from t after =
    segments
    (take (length t.lists.counts) after.counts)
    (take (length t.lists.counts) after.times)
    (take (length t.lists.counts) after.rates)
