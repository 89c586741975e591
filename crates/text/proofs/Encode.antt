-- A parsed stamp to its encoded count. A number above the number of partitions is refused, however large: its cap changes nothing.
use Rattle.rules.specs.declared.refusal.Refusal.{Refusal}
use Rattle.std.specs.Prelude.{Result, Ok, Err}
use Prim.Native.Nat.{ℕ, ◌≤◌, ◌<◌, min}
use mathlib.Core.Path.{◌≡◌, refl, sym, ap, ◌∙◌}
use lib.Dec.{leb}
use native.Mathlib.Omega.{arith}
use borrow.Author.Tests.{lt-leb, leb-true, leb-false}
use Rattle.base.proofs.Tests.{by_test, and_out_second}
use Rattle.rules.specs.Limits.{most_partitions}
use Rattle.rules.specs.declared.Reading.{Reading}
use Rattle.rules.specs.Answer.{Answer, answer, refused, refuse, unless, and_then, reading, as_numbered, answer_as}
use Rattle.rules.specs.Partitions.{Partitions, partitions_in}
use Rattle.rules.specs.Stamp.{Parsed, named, unnamed, encode_named, encode}
use Rattle.encode.specs.Listed.{Listed}
use Rattle.fields.specs.Pass.{field_cap}
use Rattle.parse.specs.declared.ParsedStamp.{ParsedStamp}
use Rattle.parse.specs.ParsedStamp.{parsed, capped}

module _ (p : Partitions) where
  past : (k c : ℕ) → partitions_in p < k → encode_named p k c ≡ refuse 10
  unfolding encode_named unless
  past k c l = rw (and_out_second (leb 1 k) (lt-leb k (partitions_in p) l))

  number_capped : (k c : ℕ) → partitions_in p ≤ most_partitions → encode_named p (min k field_cap) c ≡ encode_named p k c
  number_capped k c h =
      by_test (leb k field_cap)
      (λ y. let e : min k field_cap ≡ k = omega (arith, leb-true k field_cap y) in rw e)
      (λ n. let e : min k field_cap ≡ field_cap = omega (arith, leb-false k field_cap n) in
      rw e (past field_cap c (omega arith) ∙ sym (past k c (omega (arith, leb-false k field_cap n)))))

  encode_capped : (a : Answer Parsed) → partitions_in p ≤ most_partitions → and_then (capped a) (encode p) ≡ and_then a (encode p)
  unfolding capped and_then encode
  encode_capped (answer (named k c)) h = ap (λ x. and_then x (λ e. answer (reading e))) (number_capped k c.count h)
  encode_capped (answer (unnamed c)) h = refl
  encode_capped (refused k) h = refl

  module _ (a : Answer Parsed) (q : Result ParsedStamp Refusal) (l : Listed p) (e : answer_as parsed q ≡ capped a) where
    after_parsing : and_then (answer_as parsed q) (encode p) ≡ and_then a (encode p)
    after_parsing = ap (λ x. and_then x (encode p)) e ∙ encode_capped a l.few

    pub stamp_encoded : (s : ParsedStamp) (r : Answer Reading) → q ≡ Ok s → r ≡ encode p (parsed s) → r ≡ and_then a (encode p)
    unfolding and_then
    stamp_encoded s r h f = f ∙ (rw h at after_parsing)

    pub parse_refused : (k : Refusal) → q ≡ Err k → refused (as_numbered k) ≡ and_then a (encode p)
    unfolding and_then
    parse_refused k h = rw h at after_parsing
