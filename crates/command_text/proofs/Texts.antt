-- The bytes of times and rates, as the code puts them.
use Prim.Native.Nat.{ℕ, ◌+◌, ◌/◌, ◌^◌, ◌≤◌, ◌<◌}
use mathlib.Core.Path.{◌≡◌, sym, ◌∙◌}
use mathlib.Core.Bool.{Bool, true, false}
use mathlib.Core.List.{List, [], ◌∷◌, ◌++◌, append_assoc}
use lib.IntN.{ℤ, pos, negsuc}
use lib.ListN.{length}
use mir.Syntax.{w64}
use mir.Val.{SFits, to_z, of_z}
use mir.Facts.{to_z-of_z}
use native.Mathlib.Nat.{pow-le-pow_right}
use native.Mathlib.Omega.{arith}
use lib.Signed.{le_z}
use lib.Signed.{lt_z}
use lib.IntN.{nat_abs}
use mathlib.Core.Path.{refl}
use native.Mathlib.Numerals.{add-one}
use Rattle.std.proofs.lemmas.Int.{ints}
use Rattle.base.specs.Signed.{elapsed}
use Rattle.base.proofs.Signed.{before_not_after, before_at_most}
use Rattle.rules.specs.declared.TimedStamp.{TimedStamp}
use Rattle.rules.specs.Print.{last_digits}
use Rattle.decimal.specs.Writing.{Room, Written}
use Rattle.roundtrip.proofs.Digits.{last_length}
use Rattle.decimal.proofs.Digits.{digits_room}
use Rattle.decimal.proofs.LeftToRight.{written_same_length, written_then}
use Rattle.number_text.specs.Numbers.{decimal_of, longest_number}
use Rattle.command_rules.specs.Fields.{pointed, amount_text, time_text, difference_text}
use Rattle.command_rules.specs.Lines.{both_fields}
use Rattle.command_text.specs.Longest.{longest_pointed, longest_field, longest_both}

-- a number with a point
pub ten_pos : (k : ℕ) → 0 < 10 ^ k
ten_pos k = pow-le-pow_right {n = 10} (omega arith) {i = 0} {j = k} (omega arith)

module _ (x whole places at start : ℕ) {entry first : List ℕ} (unit : whole ≡ 10 ^ places) (small : places ≤ 12) (room : at + longest_pointed ≤ length entry)
    (w : Written (decimal_of (x / whole) ++ (46 ∷ [])) start at entry first) (b : start ≤ at + longest_number + 1) where
  pub places_room : Room (last_digits places x) (start + places) first
  places_room = digits_room places x (start + places) first (omega arith) (omega (arith, written_same_length w (omega arith)))

  pub point_put : (after from r : ℕ) {second exit : List ℕ} → Written (last_digits places x) (start + places) from first second
      → Written (after ∷ []) r (start + places) second exit → Written (pointed places x ++ (after ∷ [])) r at entry exit
  unfolding pointed
  point_put after from r d t =
      let here : from ≡ start = omega (arith, last_length places x, d.ends) in
      let two = written_then (rw unit at w) (rw here at d) (omega arith) in
      written_then (rw (append_assoc (decimal_of (x / 10 ^ places)) (46 ∷ []) (last_digits places x)) at two) t (omega arith)

-- a time by its sign
minus_time : (seconds : Bool) (t : ℤ) → lt_z t (pos 0) ≡ true → time_text seconds t ≡ 45 ∷ amount_text seconds (nat_abs t)
unfolding time_text
minus_time seconds (pos n) h = absurd (grind (arith, ints))
minus_time seconds (negsuc n) h = rw add-one refl

plus_time : (seconds : Bool) (t : ℤ) → lt_z t (pos 0) ≡ false → time_text seconds t ≡ amount_text seconds (nat_abs t)
unfolding time_text
plus_time seconds (pos n) h = refl
plus_time seconds (negsuc n) h = absurd (grind (arith, ints))

module _ (seconds : Bool) (t : ℤ) (f : SFits w64 t) (m at r after : ℕ) {entry exit : List ℕ} (e : m ≡ nat_abs (to_z w64 (of_z w64 t))) where
  pub minus_put : (place : ℕ) {out : List ℕ} → lt_z (to_z w64 (of_z w64 t)) (pos 0) ≡ true → at < length entry
      → Written (45 ∷ []) place at entry out → Written (amount_text seconds m ++ (after ∷ [])) r place out exit
      → Written (time_text seconds t ++ (after ∷ [])) r at entry exit
  minus_put place h l w v = rw (minus_time seconds t (rw (to_z-of_z f) at h), ← to_z-of_z f, ← e) (written_then w v (omega (arith, w.ends)))

  pub plus_put : lt_z (to_z w64 (of_z w64 t)) (pos 0) ≡ false → Written (amount_text seconds m ++ (after ∷ [])) r at entry exit → Written (time_text seconds t ++ (after ∷ [])) r at entry exit
  plus_put h w = rw (plus_time seconds t (rw (to_z-of_z f) at h), ← to_z-of_z f, ← e) w

pub other_way : (a b : ℤ) → le_z a b ≡ false → le_z b a ≡ true
other_way a b h = before_at_most b a (before_not_after b a ∙ rw h)

-- the difference of two times, which are their bits at a call
module _ (seconds : Bool) (a b : ℤ) (f : SFits w64 a) (g : SFits w64 b) (d at r after : ℕ) {entry exit : List ℕ} where
  pub later_put : le_z (to_z w64 (of_z w64 a)) (to_z w64 (of_z w64 b)) ≡ true → d ≡ elapsed (to_z w64 (of_z w64 a)) (to_z w64 (of_z w64 b))
      → Written (amount_text seconds d ++ (after ∷ [])) r at entry exit → Written (difference_text seconds a b ++ (after ∷ [])) r at entry exit
  unfolding difference_text
  later_put h e w = let same : d ≡ elapsed a b = e ∙ rw (to_z-of_z f, to_z-of_z g) in rw (rw (to_z-of_z f, to_z-of_z g) at h, ← same) w

  pub earlier_put : (place : ℕ) {out : List ℕ} → le_z (to_z w64 (of_z w64 a)) (to_z w64 (of_z w64 b)) ≡ false → d ≡ elapsed (to_z w64 (of_z w64 b)) (to_z w64 (of_z w64 a)) → at + longest_field ≤ length entry → place ≡ at + 1
      → Written (45 ∷ []) place at entry out → Written (amount_text seconds d ++ (after ∷ [])) r place out exit → Written (difference_text seconds a b ++ (after ∷ [])) r at entry exit
  unfolding difference_text
  earlier_put place h e l q w v = let same : d ≡ elapsed b a = e ∙ rw (to_z-of_z f, to_z-of_z g) in rw (rw (to_z-of_z f, to_z-of_z g) at h, ← same) (written_then w v (omega arith))

-- a count and its time
pub both_put : (seconds : Bool) (s : TimedStamp) (f : SFits w64 s.time) (after at place r : ℕ) {entry out exit : List ℕ} → at + longest_both ≤ length entry
    → Written (decimal_of s.count ++ (9 ∷ [])) place at entry out → place ≤ at + longest_number + 1
    → Written (time_text seconds (to_z w64 (of_z w64 s.time)) ++ (after ∷ [])) r place out exit → Written (both_fields seconds s ++ (after ∷ [])) r at entry exit
unfolding both_fields
both_put seconds s f after at place r {entry} {out} {exit} room w b v =
    rw (join (decimal_of s.count) (time_text seconds s.time) after) (written_then w (rw (to_z-of_z f) at v) (omega arith))
  where
    join : (a b : List ℕ) (x : ℕ) → (a ++ (9 ∷ b)) ++ (x ∷ []) ≡ (a ++ (9 ∷ [])) ++ (b ++ (x ∷ []))
    join a b x = append_assoc a (9 ∷ b) (x ∷ []) ∙ sym (append_assoc a (9 ∷ []) (b ++ (x ∷ [])))
