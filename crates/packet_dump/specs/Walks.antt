-- The caller's loop: step after step over a chunk, and chunk after chunk over a dump.
use Rattle.std.specs.Prelude.{ℕ, zero, suc, ◌+◌, ◌-◌, List, [], ◌∷◌, ◌++◌, length, take, drop}
use Rattle.rules.specs.Answer.{Answer, answer, and_then}
use Rattle.packet_rules.specs.Walk.{Found, in_chunk, in_buffer, only_tail, next_packet, tail_buffer_after}

-- what a walk gives: the packets, each by its bytes as the caller sees them, and the buffer and the tail at the end
pub record Walk : Type 0 where
  pub packets : List (List ℕ)
  pub buffer : List ℕ
  pub tail : ℕ

abbrev pub walked : List (List ℕ) → List ℕ → ℕ → Walk
walked packets buffer tail = record { packets = packets; buffer = buffer; tail = tail }

-- packets in front of those of a walk
unfoldable pub preceded : List (List ℕ) → Answer Walk → Answer Walk
preceded ps a = and_then a (λ w. answer (walked (ps ++ w.packets) w.buffer w.tail))

-- after a step: a packet is taken from the chunk, or from the buffer as the step left it, and the walk goes on behind it; or the chunk is used up
unfoldable pub go_on : (ℕ → Answer Walk) → List ℕ → List ℕ → Found → Answer Walk
go_on again chunk buffer (in_chunk start end) = preceded (take (end - start) (drop start chunk) ∷ []) (again end)
go_on again chunk buffer (in_buffer n at) = preceded (take n buffer ∷ []) (again at)
go_on again chunk buffer (only_tail n) = answer (walked [] buffer n)

-- at most k steps over a chunk; the tail is 0 after a packet
unfoldable pub walk_chunk : ℕ → List ℕ → ℕ → List ℕ → ℕ → Answer Walk
walk_chunk zero buffer tail chunk at = answer (walked [] buffer tail)
walk_chunk (suc k) buffer tail chunk at =
    and_then (next_packet buffer tail chunk at)
    (go_on (λ next. walk_chunk k (tail_buffer_after buffer tail chunk at) 0 chunk next) chunk (tail_buffer_after buffer tail chunk at))

-- a step for each byte of a chunk and one more are enough; a caller may have any number more
abbrev pub steps_for : ℕ → List ℕ → ℕ
steps_for more chunk = more + (length chunk + 1)

-- each chunk from its first byte, with the tail that the one before left
unfoldable pub walk_dump : ℕ → List ℕ → ℕ → List (List ℕ) → Answer Walk
walk_dump more buffer tail [] = answer (walked [] buffer tail)
walk_dump more buffer tail (c ∷ cs) =
    and_then (walk_chunk (steps_for more c) buffer tail c 0) (λ w. preceded w.packets (walk_dump more w.buffer w.tail cs))
