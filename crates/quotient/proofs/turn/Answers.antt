use Rattle.quotient.proofs.Raised.{turned_word}
use Rattle.std.proofs.Common.{rules}
use Rattle.quotient.proofs.turn.Goals as goal

pub returns : goal.returns
returns c = turned_word _ _ _ _ _ _ _ _
    c.requires.0
    c.requires.1
    c.requires.2
    (search rules)
    c.wrapping_add_u64-2.ensures.value
    c.wrapping_add_u64-twice.ensures.value
    c.wrapping_add_u64.ensures.value
    c.either-part.ensures
    c.wrapping_sub_u64.ensures.value
    (search rules)
