-- A refusal as a message shows it: its number, and its place where it has one.
use Rattle.std.specs.Prelude.{ℕ, List, [], ◌++◌, codes, decimal, Some, None}
use Rattle.std.specs.Prelude.{Option as Place}
use Rattle.rules.specs.Answer.{Numbered}

unfoldable pub shown_place : Place ℕ → List ℕ
shown_place None = []
shown_place (Some i) = codes " at " ++ decimal i

abbrev pub shown : Numbered → List ℕ
shown k = codes "refused " ++ (decimal k.number ++ shown_place k.place)
