-- The low octets of a number, written from the right, and a part copied.
use Prim.Native.Nat.{ℕ, zero, suc, ◌-◌, ◌/◌, ◌%◌, ◌≤◌, ◌<◌}
use mathlib.Core.Path.{◌≡◌, refl}
use mathlib.Core.List.{List, [], ◌++◌}
use lib.ListN.{length, take, drop, set, length-append}
use lib.Seq.{drop-drop}
use native.Mathlib.Omega.{arith}
use Rattle.decimal.specs.Writing.{put, Room, Written}
use Rattle.decimal.proofs.RightToLeft.{Left, left_all, left_byte, left_nothing}
use Rattle.packet_rules.specs.Octets.{octets}

pub octets_length : (n x : ℕ) → length (octets n x) ≡ n
unfolding octets
octets_length zero x = refl
octets_length (suc n) x = rw (length-append, octets_length n (x / 256)) (omega arith)

module _ (n x end : ℕ) (b : List ℕ) (r : Room (octets n x) end b) where
  pub octets_before : n ≤ end
  octets_before = omega (arith, octets_length n x, r.before)

  pub octets_all : Left (octets n x) (octets (end - (end - n)) x) end end b b
  octets_all = let e : end - (end - n) ≡ n = omega (arith, octets_before) in rw e (left_all (octets n x) end b r)

-- the octets of x from index start to index at are left to write
module _ (s : List ℕ) (x start end at : ℕ) (entry buffer : List ℕ) (l : Left s (octets (at - start) x) end at entry buffer) where
  pub octet_next : (d : ℕ) → d ≡ x % 256 → start < at → Left s (octets (at - 1 - start) (x / 256)) end (at - 1) entry (set buffer (at - 1) d)
  unfolding octets
  octet_next d e h =
      let w : at - start ≡ suc (at - 1 - start) = omega arith in
      left_byte s (octets (at - 1 - start) (x / 256)) d end at entry buffer (rw (w, ← e) at l)

-- all of them are written
pub octets_done :
    (n x rest end at : ℕ) (entry buffer : List ℕ)
    → Room (octets n x) end entry
    → Left (octets n x) (octets (at - (end - n)) rest) end at entry buffer
    → at ≤ end - n
    → Written (octets n x) end (end - n) entry buffer
unfolding octets
octets_done n x rest end at entry buffer r l h =
    let w : at - (end - n) ≡ 0 = omega arith in
    let t : Left (octets n x) [] end at entry buffer = rw w at l in
    let start : at ≡ end - n = omega (arith, t.ends, octets_length n x, r.before) in
    rw start at (left_nothing (octets n x) end at entry buffer t)

-- a part copied to its place
module _ (s : List ℕ) (end : ℕ) (b : List ℕ) (r : Room s end b) where
  pub part_written : {ys : List ℕ} → ys ≡ s → Written s end (end - length s) b (take (end - length s) b ++ (ys ++ drop (end - (end - length s)) (drop (end - length s) b)))
  unfolding put
  part_written {ys} c =
      let long : end - (end - length s) ≡ length s = omega (arith, r.before) in
      record { ends = omega (arith, r.before); bytes = rw (c, long, drop-drop) }
