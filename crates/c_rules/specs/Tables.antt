-- The tables of a C call: "tables come as byte slices, one a list, ..; n and delimiter as numbers".
use Rattle.std.specs.Prelude.{ℕ, zero, suc, ◌&&◌, cond, List, [], ◌∷◌, leb, take}
use Rattle.rules.specs.Limits.{most_fields, last_delimiter}
use Rattle.rules.specs.declared.Layout.{Layout}
use Rattle.rules.specs.Partitions.{Partitions, partitions}
use Rattle.rules.specs.Segments.{Segments, segments}
use Rattle.c_rules.specs.Numbers.{numbers_in, numbers, times}

-- k slots: the list's numbers, and 0 behind its last
unfoldable pub slots : ℕ → List ℕ → List ℕ
slots zero xs = []
slots (suc k) [] = 0 ∷ slots k []
slots (suc k) (x ∷ xs) = x ∷ slots k xs

-- "a modulus or offset list under n is refused as the table it belongs to": there are no fields then, which no layout has
unfoldable pub fields_given : ℕ → List ℕ → List ℕ → ℕ
fields_given n moduli offsets = cond (leb n (numbers_in moduli) && leb n (numbers_in offsets)) n 0

-- a number above the codes is no code, as 0 is none
unfoldable pub code_given : ℕ → ℕ
code_given d = cond (leb d last_delimiter) d 0

-- the layout of the first n numbers of each list; "Slots after the n-th are not looked at."
abbrev pub layout_from : ℕ → ℕ → List ℕ → List ℕ → Layout
layout_from n d moduli offsets =
    record {
      n = fields_given n moduli offsets;
      moduli = slots most_fields (take (fields_given n moduli offsets) (numbers moduli));
      offsets = slots most_fields (take (fields_given n moduli offsets) (numbers offsets));
      delimiter = code_given d;
    }

abbrev pub partitions_from : List ℕ → List ℕ → Partitions
partitions_from starts ends = partitions (numbers starts) (numbers ends)

abbrev pub segments_from : List ℕ → List ℕ → List ℕ → Segments
segments_from counts ts rates = segments (numbers counts) (times ts) (numbers rates)
