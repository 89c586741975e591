-- What reading a message in hex answers, by the buffer afterwards.
use Rattle.rules.specs.declared.refusal.Refusal.{Refusal}
use Rattle.std.specs.Prelude.{ℕ, ◌/◌, ◌%◌, ◌≤◌, ◌≡◌, true, List, length, take, Result, Ok, Err}
use Rattle.base.specs.Scans.{all}
use Rattle.rules.specs.Answer.{Answer, answer, refused, as_numbered}
use Rattle.command_rules.specs.Input.{is_hex, longest_hex}

-- the lent buffer: a byte for each two digits
abbrev pub longest_message : ℕ
longest_message = longest_hex / 2

abbrev pub hex_answer : Result ℕ Refusal → List ℕ → Answer (List ℕ)
hex_answer (Ok n) message = answer (take n message)
hex_answer (Err k) message = refused (as_numbered k)

abbrev pub hex_length : Result ℕ Refusal → ℕ
hex_length (Ok n) = n
hex_length (Err k) = 0

-- a text that is a message
pub record HexText (s : List ℕ) : Type 0 where
  pub short : length s ≤ longest_hex
  pub even : length s % 2 ≡ 0
  pub digits : all is_hex s ≡ true
