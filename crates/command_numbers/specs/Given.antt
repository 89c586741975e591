-- What reading a count and a time answers: what the definitions read, with numbers up to a cap.
use Rattle.std.specs.Prelude.{ℕ, ◌-◌, min, ℤ, pos, negsuc}
use Rattle.rules.specs.Answer.{Answer, answer, refused}

-- only code caps: above the largest total and the latest time
abbrev pub number_cap : ℕ
number_cap = 5_000_000_000_000_000_000

unfoldable pub near_count : ℕ → ℕ
near_count n = min n number_cap

-- from -number_cap to number_cap
unfoldable pub near_time : ℤ → ℤ
near_time (pos n) = pos (min n number_cap)
near_time (negsuc n) = negsuc (min n (number_cap - 1))

unfoldable pub capped_count : Answer ℕ → Answer ℕ
capped_count (answer n) = answer (near_count n)
capped_count (refused k) = refused k

unfoldable pub capped_time : Answer ℤ → Answer ℤ
capped_time (answer t) = answer (near_time t)
capped_time (refused k) = refused k
