-- The packets of a whole dump and what is left behind them: "every whole packet in order, by the length fields alone".
use Rattle.std.specs.Prelude.{ℕ, zero, suc, ◌≡◌, Bool, true, false, cond, ◌&&◌, eqb, length, take, drop}
use mathlib.Core.List.{List, [], ◌∷◌, ◌++◌, flatten}
use Rattle.packet_rules.specs.Header.{packet_length}
use Rattle.packet_rules.specs.Walk.{is_whole}

-- the first packets of s, at most k
unfoldable pub first_packets : ℕ → List ℕ → List (List ℕ)
first_packets zero s = []
first_packets (suc k) s = cond (is_whole s) (take (packet_length s) s ∷ first_packets k (drop (packet_length s) s)) []

-- what stands behind them
unfoldable pub behind_packets : ℕ → List ℕ → List ℕ
behind_packets zero s = s
behind_packets (suc k) s = cond (is_whole s) (behind_packets k (drop (packet_length s) s)) s

-- all of them: there are no more than bytes
abbrev pub packets_in : List ℕ → List (List ℕ)
packets_in s = first_packets (length s) s

abbrev pub rest_in : List ℕ → List ℕ
rest_in s = behind_packets (length s) s

-- each has exactly the length that its own length field says
unfoldable pub all_packets : List (List ℕ) → Bool
all_packets [] = true
all_packets (p ∷ ps) = eqb (length p) (packet_length p) && all_packets ps

-- s is cut into these packets and a rest in which no whole packet stands
pub record Cuts (s : List ℕ) (packets : List (List ℕ)) (rest : List ℕ) : Type 0 where
  pub bytes : flatten packets ++ rest ≡ s
  pub each : all_packets packets ≡ true
  pub none : is_whole rest ≡ false
