-- Where a message's text stands.
use Rattle.std.specs.Prelude.{ℕ, ◌-◌, ◌≤◌, ◌≡◌, List, length}
use Rattle.rules.specs.Answer.{Answer, answer}
use Rattle.rules.specs.Message.{accepted_message, text_length}

-- 21, 22 and 23, and where the text's first byte stands
unfoldable pub start_in : List ℕ → Answer ℕ
start_in m = accepted_message m (answer (length m - 2 - text_length m))

-- the text begins at i
pub record TextAt (m : List ℕ) (i : ℕ) : Type 0 where
  pub trailer : 2 ≤ length m
  pub within : text_length m ≤ length m - 2
  pub start : i ≡ length m - 2 - text_length m
