use mathlib.Core.Path.{refl}
use borrow.Author.Rules.{rules}
use Rattle.command_ends.proofs.Heads.{fields_begin, fields_next, fields_all}
use Rattle.command_ends.proofs.put_fields.Goals as goal

pub loop-i-init : goal.loop-i-init
loop-i-init c = (search rules, search rules, search rules, search (fields_begin, rules))

pub loop-i-preserved : goal.loop-i-preserved
loop-i-preserved c = (search rules, search rules, search rules, fields_next _ _ _ _ _ _ _ _ _ _ c.loop-i.invariant.3 c.put_field-place.ensures.written refl refl refl (search rules))

pub returns-clause-written : goal.returns-clause-written
returns-clause-written c = search (fields_all, rules)
