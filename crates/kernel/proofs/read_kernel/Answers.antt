use Rattle.std.proofs.lemmas.Result.{err_from_is_err_and}
use Rattle.kernel.proofs.Reading.{read_given, read_refused}
use Rattle.kernel.proofs.read_kernel.Goals as goal

pub returns-in_err-g : goal.returns-in_err-g
returns-in_err-g c = let p = err_from_is_err_and c.from_residual.result c.from_residual.ensures.1 in rw (p.1, p.2) (record {
  result_value = (read_refused _ _ _ _ _ _ _ _ _ _ c.gather.result c.ranges.clock c.gather.ensures c.in_err-g.field-0.0 c.in_err-g.was).0;
  rates_after = (read_refused _ _ _ _ _ _ _ _ _ _ c.gather.result c.ranges.clock c.gather.ensures c.in_err-g.field-0.0 c.in_err-g.was).1;
})

pub returns : goal.returns
returns c = record {
  result_value = (read_given _ _ _ _ _ _ _ _ _ _ c.gather.result c.ranges.clock c.gather.ensures c.in_ok-g.g c.in_ok-g.was
      c.give_gathered.result _ c.give_gathered.ensures).0;
  rates_after = (read_given _ _ _ _ _ _ _ _ _ _ c.gather.result c.ranges.clock c.gather.ensures c.in_ok-g.g c.in_ok-g.was
      c.give_gathered.result _ c.give_gathered.ensures).1;
}
