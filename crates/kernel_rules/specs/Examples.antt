-- Table A of document 01 as a kernel text, and its starred cases under what is read.
use Rattle.std.specs.Prelude.{ℕ, ◌≡◌, refl, List, [], ◌∷◌, ◌++◌, map, pos, negsuc, take}
use Prim.Native.String.{String}
use Rattle.rules.specs.Answer.{answer}
use Rattle.rules.specs.Layout.{moduli_of, offsets_of}
use Rattle.rules.specs.Text.{read_text}
use Rattle.rules.specs.Stamp.{read_stamp}
use Rattle.rules.specs.Print.{print_stamp}
use Rattle.rules.specs.Time.{time_of, count_at}
use Rattle.rules.specs.Examples.{
  bytes,
  layout_a,
  partitions_a,
  segments_a,
  layout_b,
  Question,
  text,
  stamp,
  print,
  time_of_lem,
  count_at_lem,
  Reply,
  read,
  printed,
  time,
  count,
  Case,
  case,
  starred,
}
use Rattle.kernel_rules.specs.Tables.{Tables, layout_in, partitions_in, segments_in}
use Rattle.kernel_rules.specs.Kernel.{read_kernel}
use Rattle.kernel_rules.specs.Computing.{reading}

-- lines, each with its byte 10
unfoldable pub joined : List String → List ℕ
joined [] = []
joined (l ∷ ls) = bytes l ++ (10 ∷ joined ls)

unfoldable pub kernel_a : List String
kernel_a =
    "KPL/SCLK"
    ∷ "Table A. Anything may stand here: X = ("
    ∷ "\\begindata"
    ∷ "SCLK_KERNEL_ID           = ( @2026-11-16 )"
    ∷ "SCLK_DATA_TYPE_77        = ( 1 )"
    ∷ "SCLK01_TIME_SYSTEM_77    = ( 2 )"
    ∷ "SCLK01_N_FIELDS_77       = ( 2 )"
    ∷ "SCLK01_MODULI_77         = ( 100 10 )"
    ∷ "SCLK01_OFFSETS_77        = ( 0 0 )"
    ∷ "SCLK01_OUTPUT_DELIM_77   = ( 1 )"
    ∷ "SCLK_PARTITION_START_77  = ( 0, 2.0E+02 )"
    ∷ "SCLK_PARTITION_END_77    = ( 500.0 9D2 )"
    ∷ "SCLK01_COEFFICIENTS_77   = ("
    ∷ "    0   -1E-6          25.0E-9"
    ∷ "  600    0.000001      0.00000003 )"
    ∷ "\\begintext"
    ∷ []

unfoldable pub tables_a : Tables
tables_a =
    record {
      n = 2;
      delimiter = 1;
      system = 2;
      lists =
          record {
            moduli = 100 ∷ 10 ∷ [];
            offsets = 0 ∷ 0 ∷ [];
            starts = 0 ∷ 200 ∷ [];
            ends = 500 ∷ 900 ∷ [];
            counts = 0 ∷ 600 ∷ [];
            times = negsuc 999 ∷ pos 1000 ∷ [];
            rates = 25_000 ∷ 30_000 ∷ [];
          };
    }

pub kernel_a_lem : read_kernel (joined kernel_a) (negsuc 76) tables_a.lists ≡ answer tables_a
unfolding reading joined kernel_a tables_a
kernel_a_lem = refl

-- These are table A's tables, so that what document 01 says of it holds of them: of the layout the slots after the n-th are not looked at.
pub layout_a_lem : ((layout_in tables_a).n ≡ layout_a.n) × ((layout_in tables_a).delimiter ≡ layout_a.delimiter) × (moduli_of (layout_in tables_a) ≡ moduli_of layout_a) × (offsets_of (layout_in tables_a) ≡ offsets_of layout_a)
unfolding reading tables_a layout_a
layout_a_lem = (refl, refl, refl, refl)

pub partitions_a_lem : partitions_in tables_a.lists ≡ partitions_a
unfolding tables_a partitions_a
partitions_a_lem = refl

pub segments_a_lem : segments_in tables_a.lists ≡ segments_a
unfolding tables_a segments_a
segments_a_lem = refl

-- a question of document 01 under the tables of a kernel
unfoldable pub reply_by : Tables → Question → Reply
reply_by t (text l s) = read (read_text (layout_in t) (bytes s))
reply_by t (stamp s) = read (read_stamp (layout_in t) (partitions_in t.lists) (bytes s))
reply_by t (print e) = printed (print_stamp (layout_in t) (partitions_in t.lists) e 96)
reply_by t (time_of_lem e) = time (time_of (layout_in t) (partitions_in t.lists) (segments_in t.lists) e)
reply_by t (count_at_lem x) = count (count_at (layout_in t) (partitions_in t.lists) (segments_in t.lists) x)

-- the starred cases of table A; the one after them has a layout of its own
abbrev pub starred_a : List Case
starred_a = take 13 starred

pub starred_by_kernel : map (λ c. reply_by tables_a c.asked) starred_a ≡ map (λ c. c.expected) starred_a
unfolding reading layout_a partitions_a segments_a layout_b case starred tables_a reply_by
starred_by_kernel = refl
