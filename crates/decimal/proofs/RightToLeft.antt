-- A text written into a buffer from right to left, part by part.
--     put_nothing, put_byte, put_front, put_length, put_append     bytes in a buffer
--     left_all, left_room, left_next, left_byte, left_done, left_nothing      what of a text is left to write
--     written_length, written_append, written_cons, byte_written   a text that is written
use Prim.Native.Nat.{ℕ, ◌+◌, ◌-◌, ◌≤◌, ◌<◌}
use mathlib.Core.Path.{◌≡◌, refl, sym, ◌∙◌}
use mathlib.Core.List.{List, [], ◌∷◌, ◌++◌, append_assoc}
use lib.ListN.{length, take, drop, set, length-append, length-take, length-drop, take-append-drop}
use lib.Seq.{set_split, take-append-le, take-take, drop_at, length-take-le}
use native.Mathlib.Nat.{add-zero, zero-add, add_assoc}
use native.Mathlib.Numerals.{add-one}
use native.Mathlib.Omega.{arith}
use Rattle.decimal.specs.Writing.{put, Room, Written}

pub put_nothing : (at : ℕ) (b : List ℕ) → put [] at b ≡ b
unfolding put
put_nothing at b = rw (add-zero, take-append-drop)

pub put_byte : (x at : ℕ) (b : List ℕ) → at < length b → put (x ∷ []) at b ≡ set b at x
unfolding put
put_byte x at b h = rw (add-one, set_split b at x h)

pub put_front : (s b : List ℕ) → put s 0 b ≡ s ++ drop (length s) b
unfolding put
put_front s b = rw zero-add

pub put_length : (s : List ℕ) (at : ℕ) (b : List ℕ) → at + length s ≤ length b → length (put s at b) ≡ length b
unfolding put
put_length s at b h = simp (length-append, length-take, length-drop) (omega arith)

-- a text in two parts: the second part first
pub put_append : (s t : List ℕ) (at : ℕ) (b : List ℕ) → at + length s + length t ≤ length b → put (s ++ t) at b ≡ put s at (put t (at + length s) b)
unfolding put
put_append s t at b h = rw (front, back, length-append, ← (add_assoc at (length s) (length t)), append_assoc)
  where
    long : length (take (at + length s) b) ≡ at + length s
    long = length-take-le (at + length s) b (omega arith)

    front : take at (take (at + length s) b ++ (t ++ drop (at + length s + length t) b)) ≡ take at b
    front = rw (take-append-le at (take (at + length s) b) _ (omega (arith, long)), take-take at (at + length s) b (omega arith))

    back : drop (at + length s) (take (at + length s) b ++ (t ++ drop (at + length s + length t) b)) ≡ t ++ drop (at + length s + length t) b
    back = drop_at (take (at + length s) b) _ (at + length s) long

pub written_length : (s : List ℕ) (end start : ℕ) (entry exit : List ℕ) → Room s end entry → Written s end start entry exit → length exit ≡ length entry
written_length s end start entry exit r w = rw (w.bytes, put_length s start entry (omega arith))

-- of the text s, which is to end at index end, the front t is left, and is to end at index at
pub record Left (s t : List ℕ) (end at : ℕ) (entry buffer : List ℕ) : Type 0 where
  pub ends : at + length s ≡ end + length t
  pub room : Room t at buffer
  pub same_length : length buffer ≡ length entry
  pub whole : put s (at - length t) entry ≡ put t (at - length t) buffer

pub left_all : (s : List ℕ) (end : ℕ) (buffer : List ℕ) → Room s end buffer → Left s s end end buffer buffer
left_all s end buffer r = record { ends = refl; room = r; same_length = refl; whole = refl }

pub left_room : (s t u : List ℕ) (end at : ℕ) (entry buffer : List ℕ) → Left s (t ++ u) end at entry buffer → Room u at buffer
left_room s t u end at entry buffer l = record { before = omega (arith, length-append t u, l.room.before); within = l.room.within }

pub left_next : (s t u : List ℕ) (end at start : ℕ) (entry buffer after : List ℕ) → Left s (t ++ u) end at entry buffer → Written u at start buffer after → Left s t end start entry after
left_next s t u end at start entry buffer after l w = record {
  ends = omega (arith, long);
  room = record { before = omega (arith, long); within = omega (arith, kept) };
  same_length = kept ∙ l.same_length;
  whole = rw (from, put_append t u (start - length t) buffer (omega (arith, long)), seam, ← w.bytes) at l.whole;
}
  where
    long : length (t ++ u) ≡ length t + length u
    long = length-append t u

    kept : length after ≡ length buffer
    kept = written_length u at start buffer after (left_room s t u end at entry buffer l) w

    from : at - length (t ++ u) ≡ start - length t
    from = omega (arith, long, w.ends)

    seam : start - length t + length t ≡ start
    seam = omega (arith, long, w.ends, l.room.before)

pub left_done : (s t : List ℕ) (end at start : ℕ) (entry buffer after : List ℕ) → Left s t end at entry buffer → Written t at start buffer after → Written s end start entry after
left_done s t end at start entry buffer after l w =
    let from : at - length t ≡ start = omega (arith, w.ends) in
    record { ends = omega arith; bytes = w.bytes ∙ sym (rw from at l.whole) }

pub left_nothing : (s : List ℕ) (end at : ℕ) (entry buffer : List ℕ) → Left s [] end at entry buffer → Written s end at entry buffer
left_nothing s end at entry buffer l =
    let from : at - 0 ≡ at = omega arith in
    record { ends = omega arith; bytes = sym (rw (from, put_nothing) at l.whole) }

-- a text in two parts
pub written_append : (s t : List ℕ) (end at start : ℕ) (entry buffer exit : List ℕ)
    → Room (s ++ t) end entry → Written t end at entry buffer → Written s at start buffer exit → Written (s ++ t) end start entry exit
written_append s t end at start entry buffer exit r w v =
    left_done (s ++ t) s end at start entry buffer exit (left_next (s ++ t) s t end end at entry entry buffer (left_all (s ++ t) end entry r) w) v

-- a byte in front of a text
pub written_cons : (x : ℕ) (s : List ℕ) (end at start : ℕ) (entry buffer exit : List ℕ)
    → Room (x ∷ s) end entry → Written s end at entry buffer → Written (x ∷ []) at start buffer exit → Written (x ∷ s) end start entry exit
written_cons x s = written_append (x ∷ []) s

pub byte_written : (x end : ℕ) (b : List ℕ) → Room (x ∷ []) end b → Written (x ∷ []) end (end - 1) b (set b (end - 1) x)
byte_written x end b r = record { ends = omega (arith, r.before); bytes = sym (put_byte x (end - 1) b (omega (arith, r.before))) }

-- the last byte of what is left
pub left_byte : (s t : List ℕ) (x end at : ℕ) (entry buffer : List ℕ) → Left s (t ++ (x ∷ [])) end at entry buffer → Left s t end (at - 1) entry (set buffer (at - 1) x)
left_byte s t x end at entry buffer l = left_next s t (x ∷ []) end at (at - 1) entry buffer _ l (byte_written x at buffer (left_room s t (x ∷ []) end at entry buffer l))
