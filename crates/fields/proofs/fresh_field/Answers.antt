use mathlib.Core.Path.{refl}
use Rattle.fields.proofs.fresh_field.Goals as goal

pub returns : goal.returns
returns c = refl
