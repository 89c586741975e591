use Rattle.std.proofs.lemmas.Result.{err_from_is_err_and}
use Rattle.text.proofs.Encode.{stamp_encoded, parse_refused}
use Rattle.text.proofs.stamp_in.Goals as goal

pub returns-in_err-parsed_in : goal.returns-in_err-parsed_in
returns-in_err-parsed_in c = let p = err_from_is_err_and c.from_residual.result c.from_residual.ensures.1 in rw (p.1, p.2) (parse_refused _ _ _ c.requires.listed c.parsed_in.ensures _ c.in_err-parsed_in.was)

pub returns : goal.returns
returns c = stamp_encoded _ _ _ c.requires.listed c.parsed_in.ensures _ _ c.in_ok-parsed_in.was c.encode_parsed.ensures
