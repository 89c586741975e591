use Rattle.script_words.proofs.DoubleBits.{up_to_infinity}
use Rattle.script_words.proofs.numbers.double_of.Goals as goal

pub float_from_bits-result : goal.float_from_bits-result
float_from_bits-result c = up_to_infinity c.args.pattern c.if-pattern-gt-INFINITY.false
