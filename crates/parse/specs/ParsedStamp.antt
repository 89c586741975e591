-- A stamp as the code parses it: that of rules' specs/Stamp.antt, with a partition's number up to a cap.
use Rattle.std.specs.Prelude.{min}
use Rattle.rules.specs.Answer.{Answer, answer, refused}
use Rattle.rules.specs.Stamp.{Parsed, named, unnamed}
use Rattle.fields.specs.Pass.{field_cap}
use Rattle.parse.specs.declared.ParsedStamp.{ParsedStamp}
use Rattle.parse.specs.declared.ParsedStamp.TheVariants as Parses

abbrev pub parsed : ParsedStamp → Parsed
parsed (Parses.Named k r) = named k r
parsed (Parses.Unnamed r) = unnamed r

-- only code caps: the number is kept as the cap where it is larger
unfoldable pub capped : Answer Parsed → Answer Parsed
capped (answer (named k r)) = answer (named (min k field_cap) r)
capped (answer (unnamed r)) = answer (unnamed r)
capped (refused k) = refused k
