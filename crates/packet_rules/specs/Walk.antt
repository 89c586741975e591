-- "Walking a dump": one step, which gives the next whole packet of what is left, or the tail.
use Rattle.std.specs.Prelude.{ℕ, ◌+◌, ◌-◌, Bool, not, cond, List, [], ◌++◌, leb, eqb, length, take, drop}
use Rattle.rules.specs.Answer.{Answer, answer, refused, unless}
use Rattle.rules.specs.Print.{buffer_after}
use Rattle.packet_rules.specs.declared.WalkStep.{WalkStep}
use Rattle.packet_rules.specs.declared.WalkStep.TheVariants as Steps
use Rattle.packet_rules.specs.Header.{packet_length}

-- "a lent buffer of 65,542 bytes": the longest packet
abbrev pub tail_room : ℕ
tail_room = 65_542

-- A whole packet stands at the front of s. Bytes without a length field are never whole: `packet_length` is at least 7.
unfoldable pub is_whole : List ℕ → Bool
is_whole s = leb (packet_length s) (length s)

-- what is left to walk: the tail, which is the first bytes of the buffer, and the chunk from `at` on
unfoldable pub left : List ℕ → ℕ → List ℕ → ℕ → List ℕ
left buffer tail chunk at = take tail buffer ++ drop at chunk

-- What a step finds.
pub data Found : Type 0 where
  -- a packet in the chunk, from its first byte up to where the walk goes on
  in_chunk : ℕ → ℕ → Found
  -- a packet at the front of the buffer, its length, and where the walk goes on in the chunk
  in_buffer : ℕ → ℕ → Found
  -- no packet: the tail's length
  only_tail : ℕ → Found

-- "every whole packet in order, by the length fields alone": a packet that begins in the tail is joined in the buffer
unfoldable pub found_in : ℕ → ℕ → List ℕ → Found
found_in tail at s =
    cond (is_whole s)
    (cond (eqb tail 0) (in_chunk at (at + packet_length s)) (in_buffer (packet_length s) (at + (packet_length s - tail))))
    (only_tail (length s))

-- "16 if shorter, then 25 for a tail said to be longer than that"; and 25 for one in which a whole packet stands,
-- which no walk leaves and the papers leave free
unfoldable pub next_packet : List ℕ → ℕ → List ℕ → ℕ → Answer Found
next_packet buffer tail chunk at =
    unless 16 (leb tail_room (length buffer))
    (unless 25 (leb tail tail_room)
    (unless 25 (not (is_whole (take tail buffer)))
    (answer (found_in tail at (left buffer tail chunk at)))))

-- what a step writes to the front of the buffer: a packet that is joined there, or the tail
unfoldable pub written_by : List ℕ → Answer Found → Answer (List ℕ)
written_by s (answer (in_chunk start end)) = answer []
written_by s (answer (in_buffer n at)) = answer (take n s)
written_by s (answer (only_tail n)) = answer s
written_by s (refused k) = refused k

-- The buffer afterwards, by printing's rule: behind what is written it is as it was, and a refusal leaves it.
unfoldable pub tail_buffer_after : List ℕ → ℕ → List ℕ → ℕ → List ℕ
tail_buffer_after buffer tail chunk at = buffer_after (written_by (left buffer tail chunk at) (next_packet buffer tail chunk at)) buffer

-- What a step of the code finds.
abbrev pub found_by : WalkStep → Found
found_by (Steps.InChunk s) = in_chunk s.start s.end
found_by (Steps.InBuffer j) = in_buffer j.length j.at
found_by (Steps.Tail n) = only_tail n
