use mathlib.Core.Path.{◌∙◌}
use borrow.Author.Rules.{rules}
use borrow.Author.Tests.{tests}
use Rattle.std.proofs.lemmas.Iterator.{YieldsList-from_slice}
use Rattle.std.proofs.lemmas.Iterator.Search.{all_from_yields_List}
use Rattle.kernel_rules.specs.Assignments.{in_name}
use Rattle.kernel_heads.proofs.NameBytes.{all_listed}
use Rattle.kernel_heads.proofs.all_in_name.Goals as goal

pub returns : goal.returns
returns c =
    all_from_yields_List in_name _ _ _ c.all.ensures.ran (YieldsList-from_slice c.args.w.now cc) (λ x b q k. search (rules, tests))
    ∙ all_listed in_name c.args.w.now
