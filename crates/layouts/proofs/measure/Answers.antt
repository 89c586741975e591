use mathlib.Core.Bool.{not}
use mathlib.Core.Path.{refl, ap, ◌∙◌}
use native.Mathlib.Omega.{arith}
use borrow.Author.Rules.{rules}
use Rattle.layouts.proofs.Chains.{all_at_most, product_capped}
use Rattle.layouts.proofs.Measuring.{some_fields, few_fields, bad_head, large_offset, first_apart, moduli_measured}
use Rattle.layouts.proofs.measure.Goals.{then-not-head_ok-via-then-not-head_ok, then-not-head_ok-via-else-not-head_ok+then-not-all_at_most}
use Rattle.layouts.proofs.measure.Goals as goal

pub shared_ref_as_front-all_at_most : goal.shared_ref_as_front-all_at_most
shared_ref_as_front-all_at_most c = search (few_fields, rules)

pub shared_ref_as_front-product_capped : goal.shared_ref_as_front-product_capped
shared_ref_as_front-product_capped c = search (few_fields, rules)

pub returns-then-not-head_ok : goal.returns-then-not-head_ok
returns-then-not-head_ok c =
    elim c.then-not-head_ok.branch [
      | then-not-head_ok-via-then-not-head_ok w ↦ bad_head _ c.head_ok.ensures (ap not w.if-not-head_ok.true)
      | then-not-head_ok-via-else-not-head_ok+then-not-all_at_most w ↦
          large_offset _ _ refl (all_at_most _ _ _ w.all_at_most.ensures) (ap not w.if-not-all_at_most.true)
    ]

pub returns : goal.returns
returns c =
    let head = ap not c.if-not-head_ok.false in
    let whole = first_apart c.args.layout (search rules) (some_fields _ _ c.head_ok.ensures head) (few_fields _ _ c.head_ok.ensures head) in
    moduli_measured c.args.layout _ _ refl refl c.head_ok.ensures head (all_at_most _ _ _ c.all_at_most.ensures) (ap not c.if-not-all_at_most.false) _ _
    whole (c.product_capped-msf.ensures ∙ product_capped _ _ (omega arith)) _ c.measure_moduli.ensures
