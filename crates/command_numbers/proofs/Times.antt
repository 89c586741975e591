-- What each way out of reading a time says.
use Prim.Native.Nat.{ℕ, ◌+◌, ◌-◌, ◌≤◌, ◌<◌, min}
use mathlib.Core.Path.{◌≡◌, sym, ap, ◌∙◌}
use mathlib.Core.Bool.{Bool, true, false, not}
use mathlib.Core.List.{List}
use lib.IntN.{ℤ}
use lib.Dec.{eqb}
use lib.ListN.{length, take, drop, length-take, length-drop}
use lib.Seq.{take_all, drop-drop}
use mir.Syntax.{w64}
use mir.Val.{SFits, to_z, of_z}
use mir.Facts.{to_z-of_z}
use native.Mathlib.Omega.{arith}
use borrow.Author.Tests.{le-leb, lt-leb, not-true, not-false}
use Rattle.base.specs.Scans.{all}
use Rattle.rules.specs.Limits.{longest_text}
use Rattle.rules.specs.Text.{is_digit}
use Rattle.rules.specs.Answer.{Answer, answer, refused, refuse, placed, unless, unless_at, Numbered}
use Rattle.command_rules.specs.Input.{spelled, spelled_from, is_minus, sign_length, unsigned, with_sign, read_time, whole_part, nanoseconds, is_exact, read_seconds, read_time_by}
use Rattle.command_input.specs.Runs.{run_length}
use Rattle.command_input.proofs.Runs.{other_found, other_missing}
use Rattle.command_numbers.specs.Given.{number_cap, capped_time}
use Rattle.command_numbers.specs.Places.{point_end, nine_decimals, number_at}
use Rattle.command_numbers.proofs.Spelled.{capped_same, spelled_append}
use Rattle.command_numbers.proofs.Signs.{near_sign, sign_fits}
use Rattle.command_numbers.proofs.Points.{fault_found, fault_missing, whole_is, decimals_are}

-- `--seconds` or not
module _ (s : List ℕ) (t : Bool) (a : Answer ℤ) where
  pub by_seconds : t ≡ true → a ≡ capped_time (read_seconds s) → a ≡ capped_time (read_time_by t s)
  unfolding read_time_by
  by_seconds y e = rw y e

  pub by_nanoseconds : t ≡ false → a ≡ capped_time (read_time s) → a ≡ capped_time (read_time_by t s)
  unfolding read_time_by
  by_nanoseconds n e = rw n e

-- a capped number with its sign
signed_answer : (m : Bool) (x n : ℕ) (z : ℤ) → z ≡ with_sign m x → x ≡ min n number_cap → answer z ≡ capped_time (answer (with_sign m n))
unfolding capped_time
signed_answer m x n z e f = ap answer (e ∙ ap (with_sign m) f ∙ sym (near_sign m n))

-- all digits up to the ninth decimal
number_is : (s : List ℕ) (i q a e : ℕ) → q ≡ i + run_length is_digit (drop i s) → a ≡ point_end s q → e ≡ a + run_length is_digit (drop a s) → length s ≤ e
    → number_at s i q a ≡ min (nanoseconds (drop i s)) number_cap
unfolding number_at nanoseconds nine_decimals
number_is s i q a e hq ha he l =
    capped_same (nine_decimals (drop a s)) (min (spelled (take (q - i) (drop i s))) number_cap) (spelled (take (q - i) (drop i s))) (omega arith)
    ∙ rw (whole_is s i q a e hq ha he l, decimals_are s i q a e hq ha he l, spelled_append)

number_small : (s : List ℕ) (i q a : ℕ) → number_at s i q a ≤ number_cap
unfolding number_at
number_small s i q a = omega arith

pub number_with_sign : (s : List ℕ) (i q a : ℕ) (m : Bool) (v x : ℕ) (z : ℤ) → m ≡ is_minus s → v ≡ min (spelled (take (q - i) (drop i s))) number_cap
    → x ≡ min (spelled_from v (nine_decimals (drop a s))) number_cap → z ≡ with_sign m x → z ≡ with_sign (is_minus s) (number_at s i q a)
unfolding number_at
number_with_sign s i q a m v x z hm hv hx hz = rw (← hm, ← hv, ← hx) hz

-- a text with a sign of i bytes
module _ (s : List ℕ) (i : ℕ) (hi : i ≡ sign_length s) where
  rest_is : unsigned s ≡ drop i s
  unfolding unsigned
  rest_is = ap (λ n. drop n s) (sym hi)

  -- in nanoseconds: the digits end at e
  module _ (short : length s ≤ longest_text) (e : ℕ) (he : e ≡ i + run_length is_digit (drop i s)) where
    pub time_other : (k : Numbered) → e < length s → k ≡ placed 5 e → refused k ≡ capped_time (read_time s)
    unfolding read_time unless unless_at capped_time
    time_other k l f = rw (le-leb (length s) longest_text short, rest_is, ← hi, other_found is_digit s i e he l, f)

    module _ (l : length s ≤ e) where
      pub time_none : length s ≤ i → refuse 6 ≡ capped_time (read_time s)
      unfolding read_time unless unless_at capped_time
      time_none z = rw (le-leb (length s) longest_text short, rest_is, ← hi, other_missing is_digit s i e he l, lt-leb 1 (length (drop i s)) (omega (arith, length-drop i s)))

      pub time_is : (m : Bool) (x : ℕ) (z : ℤ) → i < length s → m ≡ is_minus s → x ≡ min (spelled (take (length s - i) (drop i s))) number_cap → z ≡ with_sign m x → answer z ≡ capped_time (read_time s)
      unfolding read_time unless unless_at
      time_is m x z g hm hx hz =
          let whole : take (length s - i) (drop i s) ≡ drop i s = take_all (length s - i) (drop i s) (omega (arith, length-drop i s)) in
          rw (le-leb (length s) longest_text short, rest_is, ← hi, other_missing is_digit s i e he l, le-leb 1 (length (drop i s)) (omega (arith, length-drop i s)), ← hm)
          (signed_answer m x (spelled (drop i s)) z hz (rw whole at hx))

  -- in seconds: the whole ones end at q, the decimals begin at a and end at e
  module _ (q a e : ℕ) (hq : q ≡ i + run_length is_digit (drop i s)) (ha : a ≡ point_end s q) (he : e ≡ a + run_length is_digit (drop a s)) (short : length s ≤ longest_text) where
    pub seconds_other : (k : Numbered) → e < length s → k ≡ placed 5 e → refused k ≡ capped_time (read_seconds s)
    unfolding read_seconds unless unless_at capped_time
    seconds_other k l f = rw (le-leb (length s) longest_text short, rest_is, ← hi, fault_found s i q a e hq ha he l, f)

    module _ (l : length s ≤ e) (w : q ≤ length s) where
      pub seconds_none : q ≤ i → refuse 6 ≡ capped_time (read_seconds s)
      unfolding read_seconds unless unless_at capped_time
      seconds_none z =
          rw (le-leb (length s) longest_text short, rest_is, ← hi, fault_missing s i q a e hq ha he l, whole_is s i q a e hq ha he l, lt-leb 1 (length (take (q - i) (drop i s))) (omega (arith, length-take (q - i) (drop i s))))

      module _ (g : i < q) where
        some_whole : 1 ≤ length (whole_part (drop i s))
        some_whole = rw (whole_is s i q a e hq ha he l, length-take) (omega (arith, length-drop i s))

        module _ (t : Bool) (ht : t ≡ all (λ b. eqb b 48) (drop (a + 9) s)) where
          exact_is : is_exact (drop i s) ≡ t
          unfolding is_exact
          exact_is = rw (decimals_are s i q a e hq ha he l, drop-drop 9 a s) (sym ht)

          pub seconds_inexact : not t ≡ true → refuse 20 ≡ capped_time (read_seconds s)
          unfolding read_seconds unless unless_at capped_time
          seconds_inexact n =
              rw (le-leb (length s) longest_text short, rest_is, ← hi, fault_missing s i q a e hq ha he l, le-leb 1 (length (whole_part (drop i s))) some_whole, exact_is, not-true t n)

          seconds_are : (z : ℤ) → not t ≡ false → z ≡ with_sign (is_minus s) (number_at s i q a) → answer z ≡ capped_time (read_seconds s)
          unfolding read_seconds unless unless_at
          seconds_are z n hz =
              rw (le-leb (length s) longest_text short, rest_is, ← hi, fault_missing s i q a e hq ha he l, le-leb 1 (length (whole_part (drop i s))) some_whole, exact_is, not-false t n)
              (signed_answer (is_minus s) (number_at s i q a) (nanoseconds (drop i s)) z hz (number_is s i q a e hq ha he l))

-- the premise that shows every place comes first
pub seconds_time : (s : List ℕ) (z : ℤ) (i q a e : ℕ) (t : Bool) → z ≡ with_sign (is_minus s) (number_at s i q a) → i ≡ sign_length s → q ≡ i + run_length is_digit (drop i s) → a ≡ point_end s q
    → e ≡ a + run_length is_digit (drop a s) → length s ≤ e → t ≡ all (λ b. eqb b 48) (drop (a + 9) s) → not t ≡ false → length s ≤ longest_text → q ≤ length s → i < q
    → answer (to_z w64 (of_z w64 z)) ≡ capped_time (read_seconds s)
seconds_time s z i q a e t hz hi hq ha he l ht n short w g =
    let fits : SFits w64 z = rw hz (sign_fits (is_minus s) (number_at s i q a) (number_small s i q a)) in
    rw (to_z-of_z {w = w64} {z = z} fits) (seconds_are s i hi q a e hq ha he short l w g t ht z n hz)

pub time_long : (s : List ℕ) → longest_text < length s → refuse 4 ≡ capped_time (read_time s)
unfolding read_time unless capped_time
time_long s h = rw (lt-leb (length s) longest_text h)

pub seconds_long : (s : List ℕ) → longest_text < length s → refuse 4 ≡ capped_time (read_seconds s)
unfolding read_seconds unless capped_time
seconds_long s h = rw (lt-leb (length s) longest_text h)
