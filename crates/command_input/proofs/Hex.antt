-- Hex digits, the bytes that they make, and what each way out of reading them says.
use Prim.Native.Nat.{ℕ, ◌+◌, ◌*◌, ◌%◌, ◌≤◌, ◌<◌}
use mathlib.Core.Path.{◌≡◌, sym, ◌∙◌}
use mathlib.Core.Bool.{Bool, true, false, not}
use mathlib.Core.List.{List, ◌++◌, append_assoc, append-nil}
use lib.Dec.{leb}
use lib.ListN.{length, take, drop, get_or, set, drop_of_length-le}
use lib.Seq.{take-suc-set}
use native.Mathlib.Numerals.{add-one}
use native.Mathlib.Omega.{arith}
use borrow.Author.Tests.{lt-leb, le-leb, eq-eqb, ne_eqb}
use Rattle.std.specs.Char.{is_ascii_hexdigit}
use mathlib.Core.Bool.{or_assoc, ◌&&◌}
use Rattle.rules.specs.Text.{is_digit}
use Rattle.base.proofs.Lists.{drop_next, all_get_d}
use Rattle.rules.specs.Answer.{answer, refused, refuse, placed, unless, unless_at, fails_at, Numbered}
use Rattle.command_rules.specs.Input.{is_hex, worth, bytes_of, longest_hex, read_hex}
use Rattle.command_input.specs.Runs.{run_length}
use Rattle.command_input.specs.Given.{longest_message, HexText}
use Rattle.command_input.proofs.Runs.{run_all, run_next, run_stop, run_past, other_found, other_missing}

-- whether a byte is a hex digit
pub is_hex_is : (b : ℕ) → is_ascii_hexdigit b ≡ is_hex b
unfolding is_hex
is_hex_is b = or_assoc (is_digit b) (leb 65 b && leb b 70) (leb 97 b && leb b 102)

-- a text of hex digits, two at a time
module _ (s : List ℕ) where
  pub digit_at : (i : ℕ) → HexText s → i < length s → is_hex (get_or s i 0) ≡ true
  digit_at i w l = all_get_d is_hex s i w.digits l

  -- digits come in pairs
  pub low_digit : (i n : ℕ) → HexText s → i ≡ 2 * n → i < length s → i + 1 < length s
  low_digit i n w e l = let even = w.even in omega arith

  pub low_digit_at : (i n : ℕ) → HexText s → i ≡ 2 * n → i < length s → is_hex (get_or s (i + 1) 0) ≡ true
  low_digit_at i n w e l = digit_at (i + 1) w (low_digit i n w e l)

  -- m: the buffer with the first n bytes of the message, which the first i digits make
  module _ (m : List ℕ) (i n : ℕ) (e : bytes_of s ≡ take n m ++ bytes_of (drop i s)) where
    pub message_next : (v : ℕ) (entry : List ℕ) → HexText s → i ≡ 2 * n → i < length s → length m ≡ length entry → length entry ≡ longest_message → v ≡ 16 * worth (get_or s i 0) + worth (get_or s (i + 1) 0)
        → bytes_of s ≡ take (n + 1) (set m n v) ++ bytes_of (drop (i + 2) s)
    unfolding bytes_of
    message_next v entry w z l g h d =
        let short = w.short in
        let room : n < length m = omega arith in
        let next : i + 2 ≡ i + 1 + 1 = omega arith in
        e
        ∙ rw (drop_next s i 0 l, drop_next s (i + 1) 0 (low_digit i n w z l), ← d, add-one n, take-suc-set m n v room, append_assoc, next)

    pub message_done : length s ≤ i → take n m ≡ bytes_of s
    unfolding bytes_of
    message_done h = sym (rw (drop_of_length-le s h, append-nil) at e)

-- the ways out
module _ (s : List ℕ) where
  pub hex_long : longest_hex < length s → refuse 4 ≡ read_hex s
  unfolding read_hex unless
  hex_long h = rw (lt-leb (length s) longest_hex h)

  module _ (short : length s ≤ longest_hex) (e : ℕ) (h : e ≡ run_length is_hex s) where
    pub hex_other : (k : Numbered) → e < length s → k ≡ placed 5 e → refused k ≡ read_hex s
    unfolding read_hex unless unless_at
    hex_other k l f = rw (le-leb (length s) longest_hex short, other_found is_hex s 0 e (omega arith) l, f)

    pub hex_text : length s ≤ e → length s % 2 ≡ 0 → HexText s
    hex_text l z = record { short = short; even = z; digits = run_all is_hex s (omega arith) }

    module _ (l : length s ≤ e) where
      pub hex_odd : (k : Numbered) → (length s % 2 ≡ 0 → ⊥) → k ≡ placed 5 (length s) → refused k ≡ read_hex s
      unfolding read_hex unless unless_at fails_at
      hex_odd k n f = rw (le-leb (length s) longest_hex short, other_missing is_hex s 0 e (omega arith) l, ne_eqb (length s % 2) 0 n, f)

      pub hex_even : (m : List ℕ) (n : ℕ) → length s % 2 ≡ 0 → take n m ≡ bytes_of s → answer (take n m) ≡ read_hex s
      unfolding read_hex unless unless_at fails_at
      hex_even m n z d = rw (le-leb (length s) longest_hex short, other_missing is_hex s 0 e (omega arith) l, eq-eqb (length s % 2) 0 z, d)

  -- the walk along the digits
  module _ (i e : ℕ) (h : e ≡ i + run_length is_hex (drop i s)) where
    pub hex_next : (t : Bool) → i < length s → t ≡ is_hex (get_or s i 0) → not t ≡ false → e ≡ i + 1 + run_length is_hex (drop (i + 1) s)
    hex_next = run_next is_hex s i e h

    pub hex_stop : (t : Bool) → i < length s → t ≡ is_hex (get_or s i 0) → not t ≡ true → i ≡ e
    hex_stop = run_stop is_hex s i e h

    pub hex_past : length s ≤ i → i ≡ e
    hex_past = run_past is_hex s i e h
