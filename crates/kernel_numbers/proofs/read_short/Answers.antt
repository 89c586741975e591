use mathlib.Core.Path.{ap}
use mathlib.Core.Bool.{not}
use Rattle.kernel_numbers.proofs.FewBytes.{fitting_none, fitting_later}
use Rattle.kernel_numbers.proofs.Whole.{number_bad, number_good}
use borrow.Author.Rules.{rules}
use Rattle.kernel_numbers.proofs.read_short.Goals as goal

pub returns : goal.returns
returns c = number_good _ _ _ _ _ _ _ _
    c.after_one-sign_end.ensures.value
    c.digits_from-whole.ensures.at_value
    c.after_one-point_end.ensures.value
    c.digits_from-both.ensures.at_value
    c.after_one-letter_end.ensures.value
    c.after_power_sign-power_sign_end.ensures.value
    c.read_power-power.ensures.at_value
    _ _
    c.digits_from-whole.ensures.digits_value
    c.digits_from-both.ensures.digits_value
    _ _ _ _ _ _
    c.requires.0
    c.requires.1
    c.well_formed-2.ensures
    (ap not c.if-not-well_formed.false)
    c.byte_at.ensures
    c.is_power_minus.ensures
    c.read_power-power.ensures.value_value
    c.shifted.ensures

pub digits_from-whole-requires-clause-fitting : goal.digits_from-whole-requires-clause-fitting
digits_from-whole-requires-clause-fitting c = fitting_none _ _

pub digits_from-both-requires-clause-fitting : goal.digits_from-both-requires-clause-fitting
digits_from-both-requires-clause-fitting c = fitting_later _ _ _ _ (search rules) c.digits_from-whole.ensures.fitting_2

pub returns-then-not-well_formed : goal.returns-then-not-well_formed
returns-then-not-well_formed c = search (number_bad, rules)
