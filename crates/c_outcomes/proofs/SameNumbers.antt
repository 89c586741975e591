-- Numbers written as bytes and read again.
use Prim.Native.Nat.{ℕ, zero, suc, ◌-◌, ◌*◌, ◌/◌, ◌%◌, ◌^◌, ◌≤◌, ◌<◌}
use mathlib.Core.Path.{◌≡◌, refl, ap, ◌∙◌}
use mathlib.Core.Bool.{true}
use mathlib.Core.List.{List, [], ◌∷◌, ◌++◌, map}
use lib.Dec.{ltb}
use lib.IntN.{ℤ, pos, negsuc}
use lib.ListN.{length, length-append, take, drop}
use native.Mathlib.Nat.{pow-suc}
use native.Mathlib.Omega.{arith}
use borrow.Author.Tests.{ltb-true, lt-ltb, le-ltb, le-leb, eq-eqb}
use Rattle.base.specs.Scans.{all}
use Rattle.base.proofs.Tests.{and_first, and_second}
use Rattle.rules.specs.Limits.{most_fields, last_delimiter}
use Rattle.c_rules.specs.Numbers.{little, bytes_of, numbers_in, eights, numbers, signed_of, unsigned_of, times, time_bytes}
use Rattle.c_rules.specs.Tables.{fields_given, code_given}
use Rattle.c_rules.proofs.Slots.{cut}
use Rattle.c_outcomes.specs.SameNumbers.{as_bytes, Words, IsTime, AllTimes, LayoutOf, SameNumbers}

little_bytes : (k w : ℕ) → w < 256 ^ k → little (bytes_of k w) ≡ w
unfolding little bytes_of
little_bytes zero w h = omega arith
little_bytes (suc k) w h = rw (little_bytes k (w / 256) (less (rw pow-suc at h))) (omega arith)
  where
    less : w < 256 ^ k * 256 → w / 256 < 256 ^ k
    less l = omega arith

little_word : (w : ℕ) → w < 2 ^ 64 → little (bytes_of 8 w) ≡ w
little_word w h = little_bytes 8 w (omega arith)

-- the eight bytes in front, and what is behind them
front : (w : ℕ) (s : List ℕ) → take 8 (bytes_of 8 w ++ s) ≡ bytes_of 8 w
unfolding bytes_of
front w s = refl

rest : (w : ℕ) (s : List ℕ) → drop 8 (bytes_of 8 w ++ s) ≡ s
unfolding bytes_of
rest w s = refl

eight_long : (w : ℕ) → length (bytes_of 8 w) ≡ 8
unfolding bytes_of
eight_long w = refl

bytes_long : (xs : List ℕ) → length (as_bytes xs) ≡ 8 * length xs
unfolding as_bytes
bytes_long [] = refl
bytes_long (x ∷ xs) = length-append (bytes_of 8 x) (as_bytes xs) ∙ rw (eight_long x, bytes_long xs) (omega arith)

read_again : (xs : List ℕ) → Words xs → eights (length xs) (as_bytes xs) ≡ xs
unfolding eights as_bytes all
read_again [] h = refl
read_again (x ∷ xs) h =
    rw (front x (as_bytes xs), rest x (as_bytes xs), little_word x (ltb-true x (2 ^ 64) (and_first _ _ h)), read_again xs (and_second (ltb x (2 ^ 64)) _ h))

many : (xs : List ℕ) → numbers_in (as_bytes xs) ≡ length xs
unfolding numbers_in
many xs = rw (bytes_long xs, eq-eqb (8 * length xs % 8) 0 (omega arith)) (omega arith)

same_list : (xs : List ℕ) → Words xs → numbers (as_bytes xs) ≡ xs
unfolding numbers
same_list xs h = rw (many xs) (read_again xs h)

signed_again : (t : ℤ) → IsTime t → signed_of (unsigned_of t) ≡ t
unfolding signed_of unsigned_of
signed_again (pos n) h = rw (lt-ltb n (2 ^ 63) (omega arith))
signed_again (negsuc n) h = rw (le-ltb (2 ^ 64 - 1 - n) (2 ^ 63) (omega arith)) (ap negsuc (omega arith))

unsigned_word : (t : ℤ) → IsTime t → ltb (unsigned_of t) (2 ^ 64) ≡ true
unfolding unsigned_of
unsigned_word (pos n) h = lt-ltb n (2 ^ 64) (omega arith)
unsigned_word (negsuc n) h = lt-ltb (2 ^ 64 - 1 - n) (2 ^ 64) (omega arith)

all_words : (ts : List ℤ) → AllTimes ts → Words (map unsigned_of ts)
unfolding AllTimes all
all_words [] h = refl
all_words (t ∷ ts) h = rw (unsigned_word t h.0, all_words ts h.1)

all_again : (ts : List ℤ) → AllTimes ts → map signed_of (map unsigned_of ts) ≡ ts
unfolding AllTimes
all_again [] h = refl
all_again (t ∷ ts) h = rw (signed_again t h.0, all_again ts h.1)

same_times : (ts : List ℤ) → AllTimes ts → times (as_bytes (map unsigned_of ts)) ≡ ts
unfolding times
same_times ts h = rw (same_list (map unsigned_of ts) (all_words ts h)) (all_again ts h)

append-nil : (xs : List ℕ) → xs ++ [] ≡ xs
append-nil [] = refl
append-nil (x ∷ xs) = ap (λ (l : List ℕ). x ∷ l) (append-nil xs)

same_time : (t : ℤ) → IsTime t → times (time_bytes t) ≡ t ∷ []
unfolding time_bytes as_bytes AllTimes
same_time t h = rw (← (append-nil (bytes_of 8 (unsigned_of t)))) (same_times (t ∷ []) (h, tt))

module _ (n d : ℕ) (xs ys : List ℕ) (wx : Words xs) (wy : Words ys) (few : n ≤ most_fields) (code : d ≤ last_delimiter) (lx : n ≤ length xs) (ly : n ≤ length ys) where
  fields_are : fields_given n (as_bytes xs) (as_bytes ys) ≡ n
  unfolding fields_given
  fields_are = rw (many xs, many ys, le-leb n (length xs) lx, le-leb n (length ys) ly)

  same_layout_lem : LayoutOf n d xs ys
  unfolding code_given
  same_layout_lem =
      record {
        fields = fields_are;
        moduli = rw (fields_are, same_list xs wx) (cut n most_fields xs few lx);
        offsets = rw (fields_are, same_list ys wy) (cut n most_fields ys few ly);
        delimiter = rw (le-leb d last_delimiter code);
      }

pub same_numbers : SameNumbers
same_numbers = record { list = same_list; time_list = same_times; time = same_time; layout = same_layout_lem; partition_lists = λ xs ys h k. rw (same_list xs h, same_list ys k); segment_lists = λ cs ts rs h t k. rw (same_list cs h, same_times ts t, same_list rs k) }
