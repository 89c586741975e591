-- The exact set of refusals of a step, none of which has a place. proofs/Refusals.antt shows that no other is given, and that each is.
use Rattle.std.specs.Prelude.{ℕ, ◌+◌, ◌≤◌, ◌<◌, ◌≡◌, true, List, [], ◌∷◌, length, take}
use Rattle.rules.specs.Answer.{numbered, refuse}
use Rattle.outcomes.specs.Refusals.{has_place, OnlyRefuses}
use Rattle.outcomes.specs.Given.{Given}
use Rattle.packet_rules.specs.Walk.{tail_room, is_whole, next_packet}

unfoldable pub walk_refusals : List ℕ
walk_refusals = 16 ∷ 25 ∷ []

pub record Refusals : Type 0 where
  pub walk : (buffer : List ℕ) (tail : ℕ) (chunk : List ℕ) (at : ℕ) → OnlyRefuses has_place walk_refusals (next_packet buffer tail chunk at)
  -- "16 if shorter, then 25 for a tail said to be longer than that"
  pub too_short_lem : (buffer : List ℕ) (tail : ℕ) (chunk : List ℕ) (at : ℕ) → length buffer < tail_room → next_packet buffer tail chunk at ≡ refuse 16
  pub too_long : (buffer : List ℕ) (tail : ℕ) (chunk : List ℕ) (at : ℕ) → tail_room ≤ length buffer → tail_room < tail → next_packet buffer tail chunk at ≡ refuse 25
  -- a tail in which a whole packet stands: the papers leave it free
  pub whole_tail : (buffer : List ℕ) (tail : ℕ) (chunk : List ℕ) (at : ℕ) → tail_room ≤ length buffer → tail ≤ tail_room → is_whole (take tail buffer) ≡ true → next_packet buffer tail chunk at ≡ refuse 25
  -- with any buffer that is long enough a call gives each
  pub given : (buffer : List ℕ) → tail_room ≤ length buffer
      → Given (next_packet [] 0 [] 0 ∷ next_packet buffer (tail_room + 1) [] 0 ∷ []) (numbered 16 ∷ numbered 25 ∷ []) walk_refusals
