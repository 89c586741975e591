use Rattle.std.proofs.lemmas.Result.{err_from_is_err_and}
use Rattle.message.proofs.Trailer.{start_at}
use Rattle.accepted_calls.proofs.Calls.{message_out, message_timed}
use Rattle.accepted_calls.proofs.message_time.Goals as goal

pub text_part-text-requires : goal.text_part-text-requires
text_part-text-requires c = start_at _ _ c.text_start.ensures _ c.in_ok-start.was

pub returns-in_err-start : goal.returns-in_err-start
returns-in_err-start c = let p = err_from_is_err_and c.from_residual.result c.from_residual.ensures.1 in rw (p.1, p.2) (message_out _ _ _ _ c.requires _ _ c.text_start.ensures _ c.in_err-start.was)

pub returns : goal.returns
returns c = message_timed _ _ _ _ c.requires _ _ c.text_start.ensures _ _ _ c.in_ok-start.was c.text_part-text.ensures c.stamp_time.ensures
