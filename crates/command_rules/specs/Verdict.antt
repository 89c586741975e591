-- The first two lines of a comparison: "whether NEWER succeeds OLDER (else the hypothesis and row), the horizon".
use Rattle.std.specs.Prelude.{ℕ, List, ◌++◌}
use Rattle.rules.specs.Examples.{bytes}
use Rattle.succession_rules.specs.declared.Condition.{Condition}
use Rattle.succession_rules.specs.declared.Condition.TheVariants as Asked
use Rattle.succession_rules.specs.Succession.{Verdict, succeeds, fails}
use Rattle.number_text.specs.Numbers.{decimal_of}
use Rattle.command_rules.specs.Fields.{field, last_field}

unfoldable pub condition_name : Condition → List ℕ
condition_name Asked.Layout = bytes "layout"
condition_name Asked.Partition = bytes "partition"
condition_name Asked.Segment = bytes "segment"
condition_name Asked.Further = bytes "further"
condition_name Asked.Seam = bytes "seam"

unfoldable pub succeeds_line : Verdict → List ℕ
succeeds_line succeeds = field (bytes "succeeds") (last_field (bytes "yes"))
succeeds_line (fails f) =
    field (bytes "succeeds") (field (bytes "no") (field (condition_name f.condition) (last_field (decimal_of f.row))))

unfoldable pub horizon_line : ℕ → List ℕ
horizon_line e = field (bytes "horizon") (last_field (decimal_of e))

unfoldable pub verdict_text : Verdict → ℕ → List ℕ
verdict_text v e = succeeds_line v ++ horizon_line e
