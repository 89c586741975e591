-- What the values of the ten names must be, and the tables that they make.
use Rattle.std.specs.Prelude.{ℕ, zero, suc, ◌-◌, ◌^◌, Bool, true, false, not, ◌&&◌, ◌||◌, List, [], ◌∷◌, map, ℤ, pos, neg_ℤ, eqb, leb, ltb, length}
use Rattle.base.specs.Scans.{all_of, all_below, among}
use Rattle.rules.specs.declared.Layout.{Layout}
use Rattle.rules.specs.Answer.{Answer, answer, unless}
use Rattle.rules.specs.Partitions.{Partitions, partitions}
use Rattle.rules.specs.Segments.{Segments, segments}
use Rattle.rules.specs.Accepted.{accepted}
use Rattle.kernel_rules.specs.declared.Number.{Number}
use Rattle.kernel_rules.specs.declared.Number.TheVariants.{Malformed, Inexact, Plus, Minus}
use Rattle.kernel_rules.specs.declared.Stage.TheVariants.{Comment}
use Rattle.kernel_rules.specs.Numbers.{is_number, number_in}
use Rattle.kernel_rules.specs.Assignments.{is_plus, after_lines, ends_well, values_of}
use Rattle.kernel_rules.specs.Names.{Assignment, given, names}

-- a test of every value
unfoldable pub every : (List ℕ → Bool) → List (List ℕ) → Bool
every p [] = true
every p (v ∷ vs) = p v && every p vs

-- SCLK_KERNEL_ID, SCLK_DATA_TYPE and SCLK01_TIME_SYSTEM by their numbers
abbrev pub kernel_id : ℕ
kernel_id = 0

abbrev pub data_type : ℕ
data_type = 1

abbrev pub time_system : ℕ
time_system = 2

-- "the five lists": moduli, offsets, coefficients, partition starts and ends
abbrev pub is_list : ℕ → Bool
is_list k = among k (4 ∷ 5 ∷ 7 ∷ 8 ∷ 9 ∷ [])

-- What the name k may be given. 19: "a name missing, given twice, with `+=`, with several values outside the five lists or, but for the ID, one that is no number"
unfoldable pub name_ok : ℕ → List Assignment → Bool
name_ok k [] = eqb k time_system
name_ok k (a ∷ []) =
    all_of
    (not (is_plus a.line)
    ∷ (is_list k || eqb (length (values_of a.line a.after)) 1)
    ∷ (eqb k kernel_id || every is_number (values_of a.line a.after))
    ∷ [])
name_ok k (a ∷ b ∷ more) = false

-- the values of the name k in these lines, as they are written
unfoldable pub values_given : List Assignment → List (List ℕ)
values_given [] = []
values_given (a ∷ more) = values_of a.line a.after

abbrev pub values : List ℕ → List (List ℕ) → ℕ → List (List ℕ)
values digits ls k = values_given (given digits k Comment ls)

-- "Decimals .. become ns and ps exactly": a value by itself, in seconds as nanoseconds and as picoseconds
abbrev pub whole : List ℕ → Number
whole v = number_in 0 v

abbrev pub in_nanoseconds : List ℕ → Number
in_nanoseconds v = number_in 9 v

abbrev pub in_picoseconds : List ℕ → Number
in_picoseconds v = number_in 12 v

-- it is the number k, which is not 0
unfoldable pub is_exactly : ℕ → Number → Bool
is_exactly k Malformed = false
is_exactly k Inexact = false
is_exactly k (Plus v) = eqb v k
is_exactly k (Minus v) = false

-- "another type or time system": SCLK_DATA_TYPE is 1, SCLK01_TIME_SYSTEM "1 or 2, 1 if absent"
unfoldable pub type_ok : List (List ℕ) → Bool
type_ok vs = every (λ v. is_exactly 1 (whole v)) vs

unfoldable pub system_ok : List (List ℕ) → Bool
system_ok vs = every (λ v. is_exactly 1 (whole v) || is_exactly 2 (whole v)) vs

-- 19, over the whole text
unfoldable pub assignments_ok : List ℕ → List (List ℕ) → Bool
assignments_ok digits ls =
    all_of
    (ends_well (after_lines Comment ls)
    ∷ all_below (λ k. name_ok k (given digits k Comment ls)) names
    ∷ type_ok (values digits ls data_type)
    ∷ system_ok (values digits ls time_system)
    ∷ [])

-- in 64 bits without a sign; `-0` is 0
unfoldable pub is_unsigned : Number → Bool
is_unsigned Malformed = false
is_unsigned Inexact = false
is_unsigned (Plus v) = true
is_unsigned (Minus v) = eqb v 0

unfoldable pub unsigned : Number → ℕ
unsigned Malformed = 0
unsigned Inexact = 0
unsigned (Plus v) = v
unsigned (Minus v) = 0

-- in 64 bits with a sign
unfoldable pub is_signed : Number → Bool
is_signed Malformed = false
is_signed Inexact = false
is_signed (Plus v) = ltb v (2 ^ 63)
is_signed (Minus v) = leb v (2 ^ 63)

unfoldable pub signed : Number → ℤ
signed Malformed = pos 0
signed Inexact = pos 0
signed (Plus v) = pos v
signed (Minus v) = neg_ℤ (pos v)

-- The coefficients stand in rows of three: count, time, rate. The column k of a list in rows of w, from 0.
unfoldable pub column : ℕ → ℕ → List (List ℕ) → List (List ℕ)
column w k [] = []
column w zero (v ∷ vs) = v ∷ column w (w - 1) vs
column w (suc k) (v ∷ vs) = column w k vs

abbrev pub counts_in : List (List ℕ) → List (List ℕ)
counts_in vs = column 3 0 vs

abbrev pub times_in : List (List ℕ) → List (List ℕ)
times_in vs = column 3 1 vs

abbrev pub rates_in : List (List ℕ) → List (List ℕ)
rates_in vs = column 3 2 vs

abbrev pub are_whole : List (List ℕ) → Bool
are_whole vs = every (λ v. is_unsigned (whole v)) vs

-- "20 a number not exact in our units or outside their 64 bits": n, the delimiter and the five lists; another type or time system is 19
unfoldable pub exact_ok : (ℕ → List (List ℕ)) → Bool
exact_ok vs =
    all_of
    (are_whole (vs 3)
    ∷ are_whole (vs 4)
    ∷ are_whole (vs 5)
    ∷ are_whole (vs 6)
    ∷ are_whole (counts_in (vs 7))
    ∷ every (λ v. is_signed (in_nanoseconds v)) (times_in (vs 7))
    ∷ every (λ v. is_unsigned (in_picoseconds v)) (rates_in (vs 7))
    ∷ are_whole (vs 8)
    ∷ are_whole (vs 9)
    ∷ [])

-- The lists that a kernel gives; also the lists that are lent for them.
pub record Lists : Type 0 where
  pub moduli : List ℕ
  pub offsets : List ℕ
  pub starts : List ℕ
  pub ends : List ℕ
  pub counts : List ℕ
  pub times : List ℤ
  pub rates : List ℕ

abbrev pub lists_of : List ℕ → List ℕ → List ℕ → List ℕ → List ℕ → List ℤ → List ℕ → Lists
lists_of ms os ss es cs ts rs = record { moduli = ms; offsets = os; starts = ss; ends = es; counts = cs; times = ts; rates = rs }

pub record Tables : Type 0 where
  pub n : ℕ
  pub delimiter : ℕ
  pub system : ℕ
  pub lists : Lists

-- a list of whole numbers, and the first of one
abbrev pub numbers : List (List ℕ) → List ℕ
numbers vs = map (λ v. unsigned (whole v)) vs

unfoldable pub first_or : ℕ → List (List ℕ) → ℕ
first_or d [] = d
first_or d (v ∷ vs) = unsigned (whole v)

unfoldable pub tables_of : (ℕ → List (List ℕ)) → Tables
tables_of vs =
    record {
      n = first_or 0 (vs 3);
      delimiter = first_or 0 (vs 6);
      system = first_or 1 (vs time_system);
      lists =
          record {
            moduli = numbers (vs 4);
            offsets = numbers (vs 5);
            starts = numbers (vs 8);
            ends = numbers (vs 9);
            counts = numbers (counts_in (vs 7));
            times = map (λ v. signed (in_nanoseconds v)) (times_in (vs 7));
            rates = map (λ v. unsigned (in_picoseconds v)) (rates_in (vs 7));
          };
    }

unfoldable pub layout_in : Tables → Layout
layout_in t = record { n = t.n; moduli = t.lists.moduli; offsets = t.lists.offsets; delimiter = t.delimiter }

abbrev pub partitions_in : Lists → Partitions
partitions_in g = partitions g.starts g.ends

abbrev pub segments_in : Lists → Segments
segments_in g = segments g.counts g.times g.rates

-- "then 1 (also lists not n long), 2, 3 (also not in threes)": not in threes leaves columns of unequal length, so 3 is at the shortest
unfoldable pub tables_accepted : Tables → Answer Tables
tables_accepted t =
    unless 1 (eqb (length t.lists.moduli) t.n && eqb (length t.lists.offsets) t.n)
    (accepted (layout_in t) (partitions_in t.lists) (segments_in t.lists) (answer t))
