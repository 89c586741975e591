use Rattle.std.proofs.lemmas.Result.{err_from_is_err_and}
use Rattle.print.proofs.Calls.{both, refused_length, stamp_tables, stamp_tables_leave, stamp_layout, stamp_decodable, stamp_few, stamp_below, stamp_above, stamp_above_leaves, stamp_printed}
use Rattle.byte_stamps.proofs.print_stamp.Goals as goal

pub returns-then-basis-encoded-clause-result_value : goal.returns-then-basis-encoded-clause-result_value
returns-then-basis-encoded-clause-result_value c = refused_length _ _ (stamp_above _ _ _ c.measure.ensures _ c.accept_stamps.ensures _ _ _ c.in_ok-basis.was c.if-basis-encoded.true)

pub returns-then-basis-encoded-clause-buffer_after : goal.returns-then-basis-encoded-clause-buffer_after
returns-then-basis-encoded-clause-buffer_after c = stamp_above_leaves _ _ _ c.measure.ensures _ c.accept_stamps.ensures _ _ _ c.in_ok-basis.was _ c.if-basis-encoded.true

pub decode-requires : goal.decode-requires
decode-requires c = stamp_decodable _ _ _ c.measure.ensures _ c.accept_stamps.ensures _ c.in_ok-basis.was _ c.if-basis-encoded.false

pub stamp_at-requires-clause-layout_facts : goal.stamp_at-requires-clause-layout_facts
stamp_at-requires-clause-layout_facts c = stamp_layout _ _ _ c.measure.ensures _ c.accept_stamps.ensures _ c.in_ok-basis.was

pub stamp_at-requires-clause-partition_lt_most_partitions : goal.stamp_at-requires-clause-partition_lt_most_partitions
stamp_at-requires-clause-partition_lt_most_partitions c = (
  stamp_few _ _ _ c.measure.ensures _ c.accept_stamps.ensures _ c.in_ok-basis.was _ c.if-basis-encoded.false _ c.decode.ensures.partition_value,
  stamp_below _ _ _ c.measure.ensures _ c.accept_stamps.ensures _ c.in_ok-basis.was _ c.if-basis-encoded.false _ c.decode.ensures.count_value,
)

pub returns : goal.returns
returns c = both _ (stamp_printed _ _ _ c.measure.ensures _ c.accept_stamps.ensures _ _ _ c.in_ok-basis.was _ _ c.decode.ensures.partition_value c.decode.ensures.count_value _ _ _ c.if-basis-encoded.false c.stamp_at.ensures)

pub returns-in_err-basis-clause-result_value : goal.returns-in_err-basis-clause-result_value
returns-in_err-basis-clause-result_value c = let p = err_from_is_err_and c.from_residual.result c.from_residual.ensures.1 in rw (p.1, p.2) (refused_length _ _ (stamp_tables _ _ _ c.measure.ensures _ c.accept_stamps.ensures _ _ _ c.in_err-basis.was))

pub returns-in_err-basis-clause-buffer_after : goal.returns-in_err-basis-clause-buffer_after
returns-in_err-basis-clause-buffer_after c = stamp_tables_leave _ _ _ c.measure.ensures _ c.accept_stamps.ensures _ _ _ _ c.in_err-basis.was
