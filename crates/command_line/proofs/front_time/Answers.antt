use mathlib.Core.Path.{sym}
use lib.Seq.{length-take-le}
use native.Mathlib.Omega.{arith}
use Rattle.command_line.proofs.front_time.Goals as goal

pub slice_bounds-message_time-end : goal.slice_bounds-message_time-end
slice_bounds-message_time-end c = sym (length-take-le _ _ (omega arith))
