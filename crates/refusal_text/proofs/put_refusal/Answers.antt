use borrow.Author.Rules.{rules}
use Rattle.refusal_text.proofs.Refusals.{refusal_put}
use Rattle.refusal_text.proofs.put_refusal.Goals as goal

pub returns-clause-written : goal.returns-clause-written
returns-clause-written c = search (refusal_put, rules)
