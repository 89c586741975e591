-- A text written into a buffer from left to right, part by part.
use Prim.Native.Nat.{ℕ, ◌+◌, ◌≤◌, ◌<◌}
use mathlib.Core.Path.{◌≡◌, sym, ◌∙◌}
use mathlib.Core.List.{List, [], ◌∷◌, ◌++◌, append_assoc}
use lib.ListN.{length, take, drop, set, length-append}
use lib.Seq.{take_at, drop_at, drop-drop, length-take-le}
use native.Mathlib.Nat.{add_assoc}
use native.Mathlib.Omega.{arith}
use Rattle.decimal.specs.Writing.{put, Written}
use Rattle.decimal.proofs.RightToLeft.{put_nothing, put_byte, put_length}

-- a text in two parts: the first part first
put_after : (s t : List ℕ) (at : ℕ) (b : List ℕ) → at + length s ≤ length b → put t (at + length s) (put s at b) ≡ put (s ++ t) at b
unfolding put
put_after s t at b h = rw (← append_assoc (take at b) s (drop (at + length s) b), front, back, length-append, append_assoc, append_assoc)
  where
    long : length (take at b ++ s) ≡ at + length s
    long = rw (length-append, length-take-le at b (omega arith))

    front : take (at + length s) ((take at b ++ s) ++ drop (at + length s) b) ≡ take at b ++ s
    front = take_at (take at b ++ s) _ (at + length s) long

    back : drop (at + length s + length t) ((take at b ++ s) ++ drop (at + length s) b) ≡ drop (at + (length s + length t)) b
    back = sym (drop-drop (length t) (at + length s) ((take at b ++ s) ++ drop (at + length s) b)) ∙ rw (drop_at (take at b ++ s) (drop (at + length s) b) (at + length s) long, drop-drop, add_assoc)

pub nothing_written : (at : ℕ) (b : List ℕ) → Written [] at at b b
nothing_written at b = record { ends = omega arith; bytes = sym (put_nothing at b) }

pub written_same_length : {s : List ℕ} {end start : ℕ} {entry exit : List ℕ} → Written s end start entry exit → end ≤ length entry → length exit ≡ length entry
written_same_length {s} {end} {start} {entry} {exit} w h = rw (w.bytes, put_length s start entry (omega (arith, w.ends)))

pub written_then : {s t : List ℕ} {end mid start : ℕ} {entry buffer exit : List ℕ}
    → Written s mid start entry buffer → Written t end mid buffer exit → mid ≤ length entry → Written (s ++ t) end start entry exit
written_then {s} {t} {end} {mid} {start} {entry} {buffer} {exit} w v h = record {
  ends = omega (arith, length-append s t, w.ends, v.ends);
  bytes = v.bytes ∙ rw (w.bytes, ← w.ends) (put_after s t start entry (omega (arith, w.ends)));
}

pub byte_then : {s : List ℕ} {mid start : ℕ} {entry buffer : List ℕ} (x : ℕ)
    → Written s mid start entry buffer → mid < length entry → Written (s ++ (x ∷ [])) (mid + 1) start entry (set buffer mid x)
byte_then {s} {mid} {start} {entry} {buffer} x w h =
    written_then w (record { ends = omega arith; bytes = sym (put_byte x mid buffer (omega (arith, written_same_length w (omega arith)))) }) (omega arith)
