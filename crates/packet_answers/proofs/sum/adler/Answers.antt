use borrow.Author.Rules.{rules}
use Rattle.packet_answers.proofs.Sums.{sum_turn, sum_done}
use Rattle.packet_answers.proofs.sum.adler.Goals as goal

pub loop-byte-preserved : goal.loop-byte-preserved
loop-byte-preserved c = (search rules, search rules, search (sum_turn, rules))

pub returns : goal.returns
returns c = search (sum_done, rules)
