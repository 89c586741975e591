use borrow.Author.Rules.{rules}
use Rattle.rules.specs.Examples.{bytes}
use Rattle.command_rules.specs.Sentences.{entry_or, sentences, sentence}
use Rattle.refusal_text.proofs.Sentences.{last_resort}
use Rattle.refusal_text.proofs.sentence.Goals as goal

pub returns-in-1-clause-value : goal.returns-in-1-clause-value
unfolding bytes entry_or sentences sentence
returns-in-1-clause-value c = rw c.in-1.is

pub returns-in-2-clause-value : goal.returns-in-2-clause-value
unfolding bytes entry_or sentences sentence
returns-in-2-clause-value c = rw c.in-2.is

pub returns-in-3-clause-value : goal.returns-in-3-clause-value
unfolding bytes entry_or sentences sentence
returns-in-3-clause-value c = rw c.in-3.is

pub returns-in-4-clause-value : goal.returns-in-4-clause-value
unfolding bytes entry_or sentences sentence
returns-in-4-clause-value c = rw c.in-4.is

pub returns-in-5-clause-value : goal.returns-in-5-clause-value
unfolding bytes entry_or sentences sentence
returns-in-5-clause-value c = rw c.in-5.is

pub returns-in-6-clause-value : goal.returns-in-6-clause-value
unfolding bytes entry_or sentences sentence
returns-in-6-clause-value c = rw c.in-6.is

pub returns-in-7-clause-value : goal.returns-in-7-clause-value
unfolding bytes entry_or sentences sentence
returns-in-7-clause-value c = rw c.in-7.is

pub returns-in-8-clause-value : goal.returns-in-8-clause-value
unfolding bytes entry_or sentences sentence
returns-in-8-clause-value c = rw c.in-8.is

pub returns-in-9-clause-value : goal.returns-in-9-clause-value
unfolding bytes entry_or sentences sentence
returns-in-9-clause-value c = rw c.in-9.is

pub returns-in-10-clause-value : goal.returns-in-10-clause-value
unfolding bytes entry_or sentences sentence
returns-in-10-clause-value c = rw c.in-10.is

pub returns-in-11-clause-value : goal.returns-in-11-clause-value
unfolding bytes entry_or sentences sentence
returns-in-11-clause-value c = rw c.in-11.is

pub returns-in-12-clause-value : goal.returns-in-12-clause-value
unfolding bytes entry_or sentences sentence
returns-in-12-clause-value c = rw c.in-12.is

pub returns-in-13-clause-value : goal.returns-in-13-clause-value
unfolding bytes entry_or sentences sentence
returns-in-13-clause-value c = rw c.in-13.is

pub returns-in-14-clause-value : goal.returns-in-14-clause-value
unfolding bytes entry_or sentences sentence
returns-in-14-clause-value c = rw c.in-14.is

pub returns-in-16-clause-value : goal.returns-in-16-clause-value
unfolding bytes entry_or sentences sentence
returns-in-16-clause-value c = rw c.in-16.is

pub returns-in-18-clause-value : goal.returns-in-18-clause-value
unfolding bytes entry_or sentences sentence
returns-in-18-clause-value c = rw c.in-18.is

pub returns-in-19-clause-value : goal.returns-in-19-clause-value
unfolding bytes entry_or sentences sentence
returns-in-19-clause-value c = rw c.in-19.is

pub returns-in-20-clause-value : goal.returns-in-20-clause-value
unfolding bytes entry_or sentences sentence
returns-in-20-clause-value c = rw c.in-20.is

pub returns-in-21-clause-value : goal.returns-in-21-clause-value
unfolding bytes entry_or sentences sentence
returns-in-21-clause-value c = rw c.in-21.is

pub returns-in-22-clause-value : goal.returns-in-22-clause-value
unfolding bytes entry_or sentences sentence
returns-in-22-clause-value c = rw c.in-22.is

pub returns-in-23-clause-value : goal.returns-in-23-clause-value
unfolding bytes entry_or sentences sentence
returns-in-23-clause-value c = rw c.in-23.is

pub returns-in_default-clause-value : goal.returns-in_default-clause-value
unfolding bytes
returns-in_default-clause-value c = search (last_resort, c.in_default, rules)
