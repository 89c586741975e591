use Rattle.rules.specs.Print.{fields_print}
use Rattle.decimal.proofs.RightToLeft.{Left}
use Rattle.field_print.proofs.LastToFirst.{At, front_of}
use Rattle.field_print.proofs.write_fields.Given as goal

abbrev pub invariant-loop-i : goal.invariant-loop-i
invariant-loop-i l = At l.moduli l.rest l.i × Left (fields_print l.delimiter l.count l.moduli l.offsets) (front_of l.moduli l.offsets l.delimiter l.rest l.i) l.end l.at l.initial.buffer l.buffer
