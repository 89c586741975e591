-- A refusal of one of two tables as a message shows it: which table, and the refusal.
use Rattle.std.specs.Prelude.{ℕ, List, ◌++◌, codes}
use Rattle.rules.specs.Answer.{as_numbered}
use Rattle.rules.specs.Shown.{shown}
use Rattle.succession_rules.specs.declared.TableRefusal.{TableRefusal}
use Rattle.succession_rules.specs.declared.TableRefusal.TheVariants as Tables

abbrev pub shown_of : TableRefusal → List ℕ
shown_of (Tables.Older k) = codes "older table " ++ shown (as_numbered k)
shown_of (Tables.Newer k) = codes "newer table " ++ shown (as_numbered k)
