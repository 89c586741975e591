-- What is promised of walking a dump.
use Rattle.std.specs.Prelude.{ℕ, ◌≤◌, ◌<◌, ◌≡◌, true, false, length, take, drop}
use mathlib.Core.List.{List, flatten}
use Rattle.rules.specs.Answer.{Answer, answer, refused, Numbered}
use Rattle.packet_rules.specs.Walk.{tail_room, is_whole, left, in_chunk, in_buffer, only_tail, found_in, next_packet, tail_buffer_after}
use Rattle.packet_rules.specs.Octets.{octets_only}
use Rattle.packet_dump.specs.Packets.{packets_in, rest_in, Cuts}
use Rattle.packet_dump.specs.Walks.{Walk, walk_dump}

-- a walk with an answer, whose packets are those of s, and whose tail is the rest
pub record Gives (s : List ℕ) (a : Answer Walk) : Type 0 where
  pub walk : Walk
  pub answers : a ≡ answer walk
  pub packets : walk.packets ≡ packets_in s
  pub tail : take walk.tail walk.buffer ≡ rest_in s

-- a tail with which the next call is not refused, whatever the chunk
pub record GoesOn (buffer : List ℕ) (tail : ℕ) : Type 0 where
  pub room : tail_room ≤ length buffer
  pub short : tail < tail_room
  pub none : is_whole (take tail buffer) ≡ false
  pub next : (chunk : List ℕ) (at : ℕ) → next_packet buffer tail chunk at ≡ answer (found_in tail at (left buffer tail chunk at))

-- the buffer after a step: the bytes that it speaks of stand at its front, and behind them it is as it was
pub record Front (n : ℕ) (s before after : List ℕ) : Type 0 where
  pub front : take n after ≡ s
  pub behind : drop n after ≡ drop n before

pub record Dump : Type 0 where
  -- "Walking a dump from an empty tail gives every whole packet in order", with a buffer of 65,542 bytes or more, however the dump is cut
  pub gives : (more : ℕ) (buffer : List ℕ) (chunks : List (List ℕ)) → tail_room ≤ length buffer → octets_only (flatten chunks) ≡ true → Gives (flatten chunks) (walk_dump more buffer 0 chunks)
  -- "the same wherever the dump is cut": also with other buffers and more steps
  pub same : (more others : ℕ) (buffer other : List ℕ) (chunks pieces : List (List ℕ)) (w v : Walk)
      → tail_room ≤ length buffer
      → tail_room ≤ length other
      → octets_only (flatten chunks) ≡ true
      → flatten chunks ≡ flatten pieces
      → walk_dump more buffer 0 chunks ≡ answer w
      → walk_dump others other 0 pieces ≡ answer v
      → (w.packets ≡ v.packets) × (w.tail ≡ v.tail) × (take w.tail w.buffer ≡ take v.tail v.buffer)
  -- what the packets and the rest are: the dump is cut into them, and no other packets and rest cut it so
  pub cuts : (s : List ℕ) → Cuts s (packets_in s) (rest_in s)
  pub only : (s : List ℕ) (packets : List (List ℕ)) (rest : List ℕ) → Cuts s packets rest → (packets ≡ packets_in s) × (rest ≡ rest_in s)
  -- the tail that a walk leaves
  pub goes_on : (more : ℕ) (buffer : List ℕ) (chunks : List (List ℕ)) (w : Walk)
      → tail_room ≤ length buffer
      → octets_only (flatten chunks) ≡ true
      → walk_dump more buffer 0 chunks ≡ answer w
      → GoesOn w.buffer w.tail

-- Whatever stands in the buffer behind the tail plays no part: so a caller may write there, or bring the tail in another buffer.
abbrev pub FrontOnly : Type 0
FrontOnly =
    (b d : List ℕ) (tail : ℕ) (chunk : List ℕ) (at : ℕ) → tail_room ≤ length b → tail_room ≤ length d → take tail b ≡ take tail d → next_packet b tail chunk at ≡ next_packet d tail chunk at

-- What a step leaves in the buffer, for every tail, chunk and place.
pub record Buffers : Type 0 where
  pub same_length : (buffer : List ℕ) (tail : ℕ) (chunk : List ℕ) (at : ℕ) → octets_only buffer ≡ true → octets_only chunk ≡ true → length (tail_buffer_after buffer tail chunk at) ≡ length buffer
  pub in-chunk : (buffer : List ℕ) (tail : ℕ) (chunk : List ℕ) (at start end : ℕ) → next_packet buffer tail chunk at ≡ answer (in_chunk start end) → tail_buffer_after buffer tail chunk at ≡ buffer
  pub in_buffer_lem : (buffer : List ℕ) (tail : ℕ) (chunk : List ℕ) (at n next : ℕ) → next_packet buffer tail chunk at ≡ answer (in_buffer n next)
      → Front n (take n (left buffer tail chunk at)) buffer (tail_buffer_after buffer tail chunk at)
  pub only_tail_lem : (buffer : List ℕ) (tail : ℕ) (chunk : List ℕ) (at n : ℕ) → next_packet buffer tail chunk at ≡ answer (only_tail n)
      → Front n (left buffer tail chunk at) buffer (tail_buffer_after buffer tail chunk at)
  pub refused_leaves : (buffer : List ℕ) (tail : ℕ) (chunk : List ℕ) (at : ℕ) (k : Numbered) → next_packet buffer tail chunk at ≡ refused k → tail_buffer_after buffer tail chunk at ≡ buffer
