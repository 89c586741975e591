-- Dumps by hand.
use Rattle.std.specs.Prelude.{ℕ, ◌≡◌, refl, List, [], ◌∷◌, map}
use Rattle.rules.specs.Computing.{computing}
use Rattle.packet_rules.specs.Octets.{big_from}
use Rattle.packet_rules.specs.Header.{word_at}
use Rattle.packet_rules.specs.Walk.{is_whole}
use Rattle.packet_dump.specs.Packets.{first_packets, behind_packets, packets_in, rest_in}

pub record Dumped : Type 0 where
  pub bytes : List ℕ
  pub packets : List (List ℕ)
  pub rest : List ℕ

unfoldable pub dumped : List ℕ → List (List ℕ) → List ℕ → Dumped
dumped s ps r = record { bytes = s; packets = ps; rest = r }

unfoldable pub dumps : List Dumped
dumps =
    dumped [] [] []
    -- six 0 and `abc`: a packet of 7 bytes, and the tail `bc`
    ∷ dumped (0 ∷ 0 ∷ 0 ∷ 0 ∷ 0 ∷ 0 ∷ 97 ∷ 98 ∷ 99 ∷ []) ((0 ∷ 0 ∷ 0 ∷ 0 ∷ 0 ∷ 0 ∷ 97 ∷ []) ∷ []) (98 ∷ 99 ∷ [])
    -- two packets and no tail; the last byte missing
    ∷ dumped (8 ∷ 1 ∷ 0 ∷ 0 ∷ 0 ∷ 1 ∷ 97 ∷ 98 ∷ 0 ∷ 0 ∷ 0 ∷ 0 ∷ 0 ∷ 0 ∷ 99 ∷ []) ((8 ∷ 1 ∷ 0 ∷ 0 ∷ 0 ∷ 1 ∷ 97 ∷ 98 ∷ []) ∷ (0 ∷ 0 ∷ 0 ∷ 0 ∷ 0 ∷ 0 ∷ 99 ∷ []) ∷ []) []
    ∷ dumped (0 ∷ 0 ∷ 0 ∷ 0 ∷ 0 ∷ 0 ∷ 99 ∷ 8 ∷ 1 ∷ 0 ∷ 0 ∷ 0 ∷ 1 ∷ 97 ∷ []) ((0 ∷ 0 ∷ 0 ∷ 0 ∷ 0 ∷ 0 ∷ 99 ∷ []) ∷ []) (8 ∷ 1 ∷ 0 ∷ 0 ∷ 0 ∷ 1 ∷ 97 ∷ [])
    -- a length field of 256
    ∷ dumped (0 ∷ 0 ∷ 0 ∷ 0 ∷ 1 ∷ 0 ∷ 7 ∷ 7 ∷ []) [] (0 ∷ 0 ∷ 0 ∷ 0 ∷ 1 ∷ 0 ∷ 7 ∷ 7 ∷ [])
    ∷ []

pub packets_hold : map (λ d. packets_in d.bytes) dumps ≡ map (λ d. d.packets) dumps
unfolding computing big_from word_at is_whole first_packets dumped dumps
packets_hold = refl

pub rests_hold : map (λ d. rest_in d.bytes) dumps ≡ map (λ d. d.rest) dumps
unfolding computing big_from word_at is_whole behind_packets dumped dumps
rests_hold = refl
