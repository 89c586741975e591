use mathlib.Core.Path.{ap}
use mathlib.Core.Bool.{not}
use Rattle.kernel_lists.proofs.Handing.{none_handed, all_handed}
use Rattle.kernel_lists.proofs.hand_out.Goals as goal

pub returns-then-not-all_fit : goal.returns-then-not-all_fit
returns-then-not-all_fit c = record { value = (none_handed _ _ _ c.all_fit.ensures.value (ap not c.if-not-all_fit.true)).0; torates_after = (none_handed _ _ _ c.all_fit.ensures.value (ap not c.if-not-all_fit.true)).1 }

pub copy-requires : goal.copy-requires
copy-requires c = (c.all_fit.ensures.rooms c.if-not-all_fit.false).f0

pub copy-requires-2 : goal.copy-requires-2
copy-requires-2 c = (c.all_fit.ensures.rooms c.if-not-all_fit.false).f1

pub copy-requires-3 : goal.copy-requires-3
copy-requires-3 c = (c.all_fit.ensures.rooms c.if-not-all_fit.false).f2

pub copy-requires-4 : goal.copy-requires-4
copy-requires-4 c = (c.all_fit.ensures.rooms c.if-not-all_fit.false).f3

pub copy-requires-5 : goal.copy-requires-5
copy-requires-5 c = (c.all_fit.ensures.rooms c.if-not-all_fit.false).f4

pub copy-requires-6 : goal.copy-requires-6
copy-requires-6 c = (c.all_fit.ensures.rooms c.if-not-all_fit.false).f5

pub copy-requires-7 : goal.copy-requires-7
copy-requires-7 c = (c.all_fit.ensures.rooms c.if-not-all_fit.false).f6

pub returns : goal.returns
returns c = record {
  value = (all_handed _ _ _ c.all_fit.ensures.value (ap not c.if-not-all_fit.false) _ _ _ _ _ _ _
      c.copy.ensures
      c.copy-2.ensures
      c.copy-3.ensures
      c.copy-4.ensures
      c.copy-5.ensures
      c.copy-6.ensures
      c.copy-7.ensures).0;
  torates_after = (all_handed _ _ _ c.all_fit.ensures.value (ap not c.if-not-all_fit.false) _ _ _ _ _ _ _
      c.copy.ensures
      c.copy-2.ensures
      c.copy-3.ensures
      c.copy-4.ensures
      c.copy-5.ensures
      c.copy-6.ensures
      c.copy-7.ensures).1;
}
