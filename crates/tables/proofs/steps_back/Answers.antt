use Rattle.tables.proofs.Accepting.{rising_table, table_unit, stepped, table_out}
use Rattle.std.proofs.Common.{refl}
use Rattle.std.proofs.lemmas.Result.{err_from_is_err_and}
use Rattle.tables.proofs.steps_back.Goals as goal

pub returns-in_err-b : goal.returns-in_err-b
returns-in_err-b c = let p = err_from_is_err_and c.from_residual.result c.from_residual.ensures.1 in rw (p.1, p.2) (table_out _ _ c.measure.ensures _ _ _ c.accept.ensures c.in_err-b.field-0.0 c.in_err-b.was)

pub steps_back-requires-clause-le_unit : goal.steps_back-requires-clause-le_unit
steps_back-requires-clause-le_unit c = table_unit _ _ c.measure.ensures _ _ _ c.accept.ensures c.in_ok-b.b c.in_ok-b.was

pub steps_back-requires-clause-rising : goal.steps_back-requires-clause-rising
steps_back-requires-clause-rising c = rising_table _ _ c.measure.ensures _ _ _ c.accept.ensures c.in_ok-b.b c.in_ok-b.was

pub returns : goal.returns
returns c = stepped _ _ c.measure.ensures _ _ _ c.accept.ensures c.in_ok-b.b c.in_ok-b.was c.steps_back.result _ c.steps_back.ensures refl
