use mathlib.Core.Path.{◌≡◌}
use Rattle.std.proofs.lemmas.Result.{err_from_is_err_and}
use Rattle.rules.specs.declared.refusal.Refusal.{Refusal}
use Rattle.succession_rules.specs.declared.TableRefusal.{TableRefusal}
use Rattle.succession_rules.specs.declared.TableRefusal.TheVariants as Refused
use Rattle.tables.proofs.Accepted.{table_facts}
use Rattle.succession.proofs.Calls.{told_ok, told_err, checked_refused, checked_accepted, older_out, newer_out, both_in}
use Rattle.succession.proofs.accept_both.Goals as goal

abbrev by_older : Refusal → TableRefusal → Type 0
by_older e d = d ≡ Refused.Older e

abbrev by_newer : Refusal → TableRefusal → Type 0
by_newer e d = d ≡ Refused.Newer e

pub returns-in_err-older_basis-clause-said : goal.returns-in_err-older_basis-clause-said
returns-in_err-older_basis-clause-said c =
    let g = told_err c.accept.result by_older _ c.in_err-older_basis.ensures.cases in
    let f = err_from_is_err_and c.from_residual.result c.from_residual.ensures.1 in
    rw (f.1, f.2, g.2) (older_out _ _ _ g.0 (checked_refused _ _ c.measure.ensures _ c.accept.ensures g.0 g.1))

pub returns-in_err-newer_basis-clause-said : goal.returns-in_err-newer_basis-clause-said
returns-in_err-newer_basis-clause-said c =
    let o = told_ok c.accept.result by_older _ c.in_ok-older_basis.ensures.cases in
    let g = told_err c.accept-2.result by_newer _ c.in_err-newer_basis.ensures.cases in
    let f = err_from_is_err_and c.from_residual-in_err-newer_basis.result c.from_residual-in_err-newer_basis.ensures.1 in
    rw (f.1, f.2, g.2)
    (newer_out _ _ _ g.0 (checked_accepted _ _ c.measure.ensures _ c.accept.ensures _ o)
    (checked_refused _ _ c.measure-2.ensures _ c.accept-2.ensures g.0 g.1))

pub returns-clause-said : goal.returns-clause-said
returns-clause-said c =
    let o = told_ok c.accept.result by_older _ c.in_ok-older_basis.ensures.cases in
    let n = told_ok c.accept-2.result by_newer _ c.in_ok-newer_basis.ensures.cases in
    both_in _ _ _ (checked_accepted _ _ c.measure.ensures _ c.accept.ensures _ o) (checked_accepted _ _ c.measure-2.ensures _ c.accept-2.ensures _ n)

pub returns-clause-facts : goal.returns-clause-facts
returns-clause-facts c =
    let o = told_ok c.accept.result by_older _ c.in_ok-older_basis.ensures.cases in
    let n = told_ok c.accept-2.result by_newer _ c.in_ok-newer_basis.ensures.cases in
    record {
      of_older = table_facts _ _ _ c.measure.ensures _ _ c.accept.ensures _ o;
      of_newer = table_facts _ _ _ c.measure-2.ensures _ _ c.accept-2.ensures _ n;
    }
