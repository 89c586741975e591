use Rattle.std.proofs.lemmas.Result.{err_from_is_err_and}
use Rattle.message.proofs.Trailer.{start_at, message_refused, message_read}
use Rattle.byte_stamps.proofs.read_message.Goals as goal

pub returns-in_err-start : goal.returns-in_err-start
returns-in_err-start c = let p = err_from_is_err_and c.from_residual.result c.from_residual.ensures.1 in rw (p.1, p.2) (message_refused _ _ _ _ c.text_start.ensures _ c.in_err-start.was)

pub text_part-requires : goal.text_part-requires
text_part-requires c = start_at _ _ c.text_start.ensures _ c.in_ok-start.was

pub returns : goal.returns
returns c = message_read _ _ _ _ c.text_start.ensures _ _ _ c.in_ok-start.was c.text_part.ensures c.read_stamp.ensures
