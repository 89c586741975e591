-- The limits of the tables, each written once for the definitions.
use Rattle.std.specs.Prelude.{ℕ, ◌+◌, ◌*◌, ℤ, pos, neg_ℤ}

-- "n from 1 to 10"
abbrev pub most_fields : ℕ
most_fields = 10

-- "an offset from 0 to 1,000"
abbrev pub largest_offset : ℕ
largest_offset = 1_000

-- "P .. is at most 10^15"
abbrev pub largest_p : ℕ
largest_p = 1_000_000_000_000_000

-- "MSF .. is at most 10^12"
abbrev pub largest_msf : ℕ
largest_msf = 1_000_000_000_000

-- delimiter codes are 1 to 5
abbrev pub last_delimiter : ℕ
last_delimiter = 5

-- "of one length from 1 to 9,999"
abbrev pub most_partitions : ℕ
most_partitions = 9_999

-- "the total, is at most 10^15": the largest P
abbrev pub largest_total : ℕ
largest_total = largest_p

-- "Three lists of one length, 1 to 10,000"
abbrev pub most_segments : ℕ
most_segments = 10_000

-- "within ±4×10^18"
abbrev pub latest_time : ℤ
latest_time = pos 4_000_000_000_000_000_000

abbrev pub earliest_time : ℤ
earliest_time = neg_ℤ latest_time

-- "A rate lies from 1,000×MSF": picoseconds in a nanosecond
abbrev pub picoseconds : ℕ
picoseconds = 1_000

-- 1,000×MSF at the largest MSF
abbrev pub largest_unit : ℕ
largest_unit = picoseconds * largest_msf

-- "to 10^15"
abbrev pub largest_rate : ℕ
largest_rate = 1_000_000_000_000_000

-- "At most 96 bytes"
abbrev pub longest_text : ℕ
longest_text = 96

-- "a field above 10^15 + 1,000"
abbrev pub largest_field : ℕ
largest_field = largest_p + largest_offset

-- "the sum above 10^15"
abbrev pub largest_count : ℕ
largest_count = largest_p
