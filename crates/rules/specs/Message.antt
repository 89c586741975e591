-- "The message": payload, clock text, and a two-byte trailer, high byte first: L, "the distance back from the trailer to the start of the text".
use Rattle.std.specs.Prelude.{ℕ, ◌+◌, ◌-◌, ◌*◌, ◌&&◌, List, leb, length, get_or, take, drop}
use Rattle.rules.specs.Limits.{longest_text}
use Rattle.rules.specs.declared.Layout.{Layout}
use Rattle.rules.specs.declared.Reading.{Reading}
use Rattle.rules.specs.Partitions.{Partitions}
use Rattle.rules.specs.Answer.{Answer, unless}
use Rattle.rules.specs.Stamp.{read_stamp}

-- L
unfoldable pub text_length : List ℕ → ℕ
text_length m = 256 * get_or m (length m - 2) 0 + get_or m (length m - 1) 0

-- "L is from 1 to 96 and at most the message length less 2." Request 3: "21 under 2 bytes, 22 L is 0, 23 L above 96 or too far back", and then what follows.
unfoldable pub accepted_message : {A : Type 0} → List ℕ → Answer A → Answer A
accepted_message m a =
    unless 21 (leb 2 (length m))
    (unless 22 (leb 1 (text_length m))
    (unless 23 (leb (text_length m) longest_text && leb (text_length m) (length m - 2)) a))

-- "The text is the L bytes just before the trailer."
unfoldable pub text_in : List ℕ → List ℕ
text_in m = take (text_length m) (drop (length m - 2 - text_length m) m)

-- The call: a message to its stamp's encoded count. A place of the text counts from the text's first byte.
unfoldable pub read_message : Layout → Partitions → List ℕ → Answer Reading
read_message l p m = accepted_message m (read_stamp l p (text_in m))
