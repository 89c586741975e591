use borrow.Author.Rules.{rules}
use Rattle.command_rows.proofs.PartitionLines.{partition_put}
use Rattle.command_rows.proofs.put_partition.Goals as goal

pub returns-clause-written : goal.returns-clause-written
returns-clause-written c = search (partition_put, rules)
