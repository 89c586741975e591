-- A 32-bit tick counter that rolls over, and the encoded count that is kept for it.
use Rattle.std.specs.Prelude.{ℕ, ◌+◌, ◌-◌, ◌%◌, true, ◌&&◌, leb}
use Rattle.rules.specs.declared.Layout.{Layout}
use Rattle.rules.specs.Answer.{Answer, answer, refused, unless}
use Rattle.rules.specs.Partitions.{Partitions, partitions_in, lengths_before, total_of}
use Rattle.rules.specs.Accepted.{accepted_stamps}
use Rattle.raw_rules.specs.declared.RawCounter.{RawCounter}

-- "a 32-bit tick counter": so many raw numbers there are, 2^32
abbrev pub raw_numbers : ℕ
raw_numbers = 4_294_967_296

-- "the difference of the raw numbers as a 32-bit counter sees it": raw less last, modulo 2^32; both are below 2^32
unfoldable pub raw_difference : ℕ → ℕ → ℕ
raw_difference raw last = (raw + (raw_numbers - last)) % raw_numbers

-- "A reset names a partition and a raw number and starts again at its start." "1, 2, then 10 for a reset". Partitions are numbered from 1.
unfoldable pub reset_raw : Layout → Partitions → ℕ → Answer ℕ
reset_raw l p number =
    accepted_stamps l p
    (unless 10 (leb 1 number && leb number (partitions_in p))
    (answer (lengths_before p (number - 1))))

-- "12 for one past the total"
unfoldable pub not_past : ℕ → ℕ → Answer ℕ
not_past total e = unless 12 (leb e total) (answer e)

-- "each reading adds the difference of the raw numbers". "1, 2, 27 for a reading before any accepted reset, then 12".
unfoldable pub read_raw : Layout → Partitions → RawCounter → ℕ → Answer ℕ
read_raw l p c raw =
    accepted_stamps l p
    (unless 27 c.started
    (not_past (total_of p) (c.count + raw_difference raw c.raw)))

-- The counter after a call with this raw number and this answer: "Keep the last raw number and the encoded count"; "A refused reading or reset
-- leaves the state."
unfoldable pub counter_after : RawCounter → ℕ → Answer ℕ → RawCounter
counter_after c raw (answer e) = record { started = true; raw = raw; count = e }
counter_after c raw (refused k) = c
