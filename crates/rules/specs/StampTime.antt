-- A stamp or a message to its encoded count and its time: reading and then count to time, as one call.
use Rattle.std.specs.Prelude.{List, ℕ}
use Rattle.rules.specs.declared.Layout.{Layout}
use Rattle.rules.specs.declared.TimeOfCount.{TimeOfCount}
use Rattle.rules.specs.declared.TimedStamp.{TimedStamp}
use Rattle.rules.specs.Partitions.{Partitions}
use Rattle.rules.specs.Segments.{Segments}
use Rattle.rules.specs.Answer.{Answer, answer, and_then, timed_stamp}
use Rattle.rules.specs.Stamp.{read_stamp}
use Rattle.rules.specs.Message.{read_message}
use Rattle.rules.specs.Time.{time_of}

-- an encoded count with its time
unfoldable pub with_time : ℕ → Answer TimeOfCount → Answer TimedStamp
with_time e a = and_then a (λ t. answer (timed_stamp e t.time))

-- The call for a stamp. The refusals of reading come first, so 3 comes after 4 to 11.
unfoldable pub time_of_stamp : Layout → Partitions → Segments → List ℕ → Answer TimedStamp
time_of_stamp l p g s = and_then (read_stamp l p s) (λ r. with_time r.count (time_of l p g r.count))

-- The call for a message, likewise.
unfoldable pub time_of_message : Layout → Partitions → Segments → List ℕ → Answer TimedStamp
time_of_message l p g m = and_then (read_message l p m) (λ r. with_time r.count (time_of l p g r.count))
