-- What the first two lines of a comparison, `succeeds` and `horizon`, tell of every line after them, and of every stamp that was not asked.
use Rattle.std.specs.Prelude.{ℕ, ◌<◌, ◌≡◌, Bool, true, false, List, ◌⊎◌}
use Rattle.base.specs.Scans.{among}
use Rattle.rules.specs.declared.Reading.{Reading}
use Rattle.rules.specs.Answer.{Answer, answer, numbered, and_then, Numbered}
use Rattle.rules.specs.Message.{read_message}
use Rattle.rules.specs.Examples.{bytes}
use Rattle.versions.specs.Versions.{Table, read_by, older_refuses_stamp}
use Rattle.succession_rules.specs.OfTwo.{answered}
use Rattle.succession_rules.specs.Succession.{succeeds, succession}
use Rattle.succession_rules.specs.Horizon.{horizon_of}
use Rattle.command_rules.specs.declared.Query.{Query}
use Rattle.command_rules.specs.declared.Query.TheVariants as Asked
use Rattle.command_rules.specs.Fields.{field, last_field, refusal_text}
use Rattle.command_rules.specs.Input.{without_return, read_hex}
use Rattle.command_rules.specs.Lines.{line_text}

-- stamps, or messages in hex
abbrev pub comparison : Bool → Query
comparison false = Asked.Compare
comparison true = Asked.CompareMessages

-- what is printed of a line
abbrev pub compared_text : Bool → Bool → Table → Table → List ℕ → List ℕ
compared_text hex seconds older newer l = line_text (comparison hex) seconds older newer l

-- the encoded count that a table reads a line to
unfoldable pub read_line : Bool → Table → List ℕ → Answer Reading
read_line false t l = read_by t (without_return l)
read_line true t l = and_then (read_hex (without_return l)) (read_message t.layout t.partitions)

-- the first field is `same`
abbrev pub SaysSame : List ℕ → Type 0
SaysSame text = (rest : List ℕ) × (text ≡ field (bytes "same") rest)

-- One of these three.
pub data NotMisled (text : List ℕ) : Type 0 where
  -- "Where the older answers, the newer gives the same answer"; or both refuse with one number
  says_same : SaysSame text → NotMisled text
  -- "Where only the newer answers, the older refuses: a stamp with 10 or 11"
  older_refuses : (k : Numbered) (rest : List ℕ) → among k.number older_refuses_stamp ≡ true → text ≡ field (bytes "older refuses") (field (refusal_text k) rest) → NotMisled text
  -- both refuse with two numbers: the older has no such partition, and the newer's does not hold the count
  both_refuse : text ≡ field (bytes "refused") (field (refusal_text (numbered 10)) (last_field (refusal_text (numbered 11)))) → NotMisled text

-- So neither `differ` nor `newer refuses`.
abbrev pub TwoWordsMislead : Type 0
TwoWordsMislead = (rest : List ℕ) → (NotMisled (field (bytes "differ") rest) → ⊥) × (NotMisled (field (bytes "newer refuses") rest) → ⊥)

-- "An older table never misleads about a newer stamp": where `succeeds` says yes, of two tables that it accepts, no line does.
abbrev pub NoLineMisleads : Type 0
NoLineMisleads =
    (older newer : Table) → succession older newer ≡ answered succeeds
    → (hex seconds : Bool) (l : List ℕ) → NotMisled (compared_text hex seconds older newer l)

-- "a stamp that either table reads to a count below it": such a line says `same`, also where `succeeds` says no.
abbrev pub SameBelowHorizon : Type 0
SameBelowHorizon =
    (older newer : Table) (h : ℕ) → horizon_of older newer ≡ answered h
    → (hex seconds : Bool) (l : List ℕ) (r : Reading) → r.count < h
    → (read_line hex older l ≡ answer r) ⊎ (read_line hex newer l ≡ answer r) → SaysSame (compared_text hex seconds older newer l)
