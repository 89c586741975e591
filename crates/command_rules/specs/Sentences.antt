-- The sentence of each refusal that the command can print.
use Rattle.std.specs.Prelude.{ℕ, zero, suc, List, [], ◌∷◌}
use Prim.Native.String.{String}
use Rattle.rules.specs.Examples.{bytes}

-- entry k of a list, from 0, or the last resort
unfoldable pub entry_or : String → ℕ → List String → String
entry_or d k [] = d
entry_or d zero (s ∷ ss) = s
entry_or d (suc k) (s ∷ ss) = entry_or d k ss

-- by the refusal's number; no line of the command is refused 0, 15, 17 or above 23
unfoldable pub sentences : List String
sentences =
    "refused"
    ∷ "the layout breaks its rules"
    ∷ "the partitions break their rules"
    ∷ "the segments break their rules"
    ∷ "the text is too long"
    ∷ "a byte that is not allowed"
    ∷ "the first field is missing"
    ∷ "too many fields"
    ∷ "a field below its offset"
    ∷ "a number that is too large"
    ∷ "no such partition"
    ∷ "the count is in no such partition"
    ∷ "the encoded count is above the total"
    ∷ "before the first segment"
    ∷ "the time or its count is out of range"
    ∷ "refused"
    ∷ "too little room"
    ∷ "refused"
    ∷ "the first line is not KPL/SCLK"
    ∷ "the text is not of a kernel's form"
    ∷ "a number that is not exact in its unit"
    ∷ "a message under two bytes"
    ∷ "a message without a text"
    ∷ "a message shorter than the text it claims"
    ∷ []

unfoldable pub sentence : ℕ → List ℕ
sentence k = bytes (entry_or "refused" k sentences)
