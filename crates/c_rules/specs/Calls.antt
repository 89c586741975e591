-- What a C call gives back, and what it leaves in a lent buffer: "Each equals the inner call on the same numbers."
use Rattle.std.specs.Prelude.{ℕ, List, ℤ, pos, neg_ℤ}
use Rattle.rules.specs.declared.Reading.{Reading}
use Rattle.rules.specs.declared.TimeOfCount.{TimeOfCount}
use Rattle.rules.specs.declared.CountAtTime.{CountAtTime}
use Rattle.rules.specs.Answer.{Answer, answer, refused, and_then}
use Rattle.rules.specs.Print.{fitting}
use Rattle.c_rules.specs.Numbers.{time_bytes}

-- "A count or a print's length comes back as itself, a refusal as its number's negative, without its place"
unfoldable pub returned : Answer ℕ → ℤ
returned (answer c) = pos c
returned (refused r) = neg_ℤ (pos r.number)

-- the count that a text, a stamp or a message reads as
unfoldable pub count_read : Answer Reading → Answer ℕ
count_read a = and_then a (λ r. answer r.count)

-- the count at a time
unfoldable pub count_given : Answer CountAtTime → Answer ℕ
count_given a = and_then a (λ c. answer c.count)

-- "times are written to an 8-byte buffer (16 if it is shorter), low byte first": what is written to a buffer of that many bytes, 16 last
unfoldable pub time_written : Answer TimeOfCount → ℕ → Answer (List ℕ)
time_written a room = and_then a (λ t. fitting room (time_bytes t.time))

-- "and 0 returned"
unfoldable pub zero_given : Answer (List ℕ) → Answer ℕ
zero_given a = and_then a (λ s. answer 0)
