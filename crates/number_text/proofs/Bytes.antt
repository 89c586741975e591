-- The bytes of a text, of a number and of a time, as the code puts them.
use Prim.Native.Nat.{ℕ, ◌+◌, ◌^◌, ◌≤◌, ◌<◌}
use mathlib.Core.Path.{◌≡◌, refl}
use Rattle.std.proofs.lemmas.Int.{ints}
use mathlib.Core.List.{List, [], ◌∷◌, ◌++◌}
use lib.IntN.{ℤ, pos, negsuc, nat_abs}
use lib.ListN.{length, take, set}
use lib.Seq.{take_all, drop-drop}
use mir.Syntax.{w64}
use mir.Val.{SFits, to_z, of_z}
use mir.Facts.{to_z-of_z}
use native.Mathlib.Numerals.{add-one}
use native.Mathlib.Omega.{arith}
use Rattle.rules.specs.Print.{digit_count, last_digits}
use Rattle.decimal.specs.Writing.{Room, Written, put}
use borrow.Rule.Slice.PartMut.{put_mid}
use lib.Signed.{lt_z}
use mathlib.Core.Bool.{true, false}
use Rattle.roundtrip.proofs.Digits.{digits_below, last_length}
use Rattle.decimal.proofs.Digits.{digits_room}
use Rattle.decimal.proofs.LeftToRight.{nothing_written, written_then, byte_then}
use Rattle.number_text.specs.Numbers.{decimal_of, time_bytes, longest_number}

-- a text copied into its place
pub text_copied : (s : List ℕ) (at n m : ℕ) {entry copied : List ℕ} → copied ≡ s → length s ≡ n → m ≡ n → Written s (at + n) at entry (put_mid at m entry copied)
unfolding put
text_copied s at n m {entry} {copied} e h k = record { ends = omega arith; bytes = rw (e, k, h, drop-drop) refl }

pub text_whole : {text : List ℕ} {r at : ℕ} {entry out : List ℕ} → Written (take (length text) text) r at entry out → Written text r at entry out
text_whole {text} w = rw (take_all (length text) text (omega arith)) at w

pub byte_put : (x at : ℕ) {entry : List ℕ} → at < length entry → Written (x ∷ []) (at + 1) at entry (set entry at x)
byte_put x at {entry} h = byte_then x (nothing_written at entry) h

pub number_fits : (x at w : ℕ) (b : List ℕ) → w ≡ digit_count x → w ≤ longest_number → at + longest_number < length b → Room (last_digits w x) (at + w) b
number_fits x at w b e l h = digits_room w x (at + w) b (omega arith) (omega arith)

pub number_written : (x after at w start : ℕ) {entry out : List ℕ} → Written (last_digits w x) (at + w) start entry out → w ≡ digit_count x → w ≤ longest_number → at + longest_number < length entry
    → Written (decimal_of x ++ (after ∷ [])) (at + w + 1) at entry (set out (at + w) after)
unfolding decimal_of
number_written x after at w start {entry} {out} d e l h =
    let from : start ≡ at = omega (arith, last_length w x, d.ends) in
    rw (← e) (byte_then after (rw from at d) (omega arith))

-- a time, by its sign
minus_bytes : (t : ℤ) → lt_z t (pos 0) ≡ true → time_bytes t ≡ 45 ∷ decimal_of (nat_abs t)
unfolding time_bytes
minus_bytes (pos n) h = absurd (grind (arith, ints))
minus_bytes (negsuc n) h = rw add-one refl

plus_bytes : (t : ℤ) → lt_z t (pos 0) ≡ false → time_bytes t ≡ decimal_of (nat_abs t)
unfolding time_bytes
plus_bytes (pos n) h = refl
plus_bytes (negsuc n) h = absurd (grind (arith, ints))

pub half_digits : (m : ℕ) → m ≤ 2 ^ 63 → digit_count m ≤ 19
half_digits m h = digits_below 19 m (omega arith) (omega arith)

module _ (t : ℤ) (f : SFits w64 t) (m at r after : ℕ) {entry exit : List ℕ} (e : m ≡ nat_abs (to_z w64 (of_z w64 t))) where
  pub minus_written : (place : ℕ) {out : List ℕ} → lt_z (to_z w64 (of_z w64 t)) (pos 0) ≡ true → at < length entry
      → Written (45 ∷ []) place at entry out → Written (decimal_of m ++ (after ∷ [])) r place out exit
      → Written (time_bytes t ++ (after ∷ [])) r at entry exit
  minus_written place h l w v = rw (minus_bytes t (rw (to_z-of_z f) at h), ← to_z-of_z f, ← e) (written_then w v (omega (arith, w.ends)))

  pub plus_written : lt_z (to_z w64 (of_z w64 t)) (pos 0) ≡ false → Written (decimal_of m ++ (after ∷ [])) r at entry exit → Written (time_bytes t ++ (after ∷ [])) r at entry exit
  plus_written h w = rw (plus_bytes t (rw (to_z-of_z f) at h), ← to_z-of_z f, ← e) w
