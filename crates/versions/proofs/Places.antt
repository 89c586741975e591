-- A text is refused alike under one layout; the refusals that demand 3 names have no place.
use Rattle.std.specs.Prelude.{Option, Some, None}
use Prim.Native.Nat.{ℕ}
use mathlib.Core.Path.{◌≡◌, refl, sym, ◌∙◌}
use mathlib.Core.Bool.{true, false, not, true≢false}
use mathlib.Core.List.{List}
use borrow.Author.Tests.{not-true}
use Rattle.base.specs.Scans.{all, among}
use Rattle.base.proofs.Tests.{not_both}
use Rattle.rules.specs.Answer.{Answer, answer, refused, and_then, Numbered}
use Rattle.rules.specs.Layout.{moduli_of, offsets_of}
use Rattle.rules.specs.Partitions.{Partitions}
use Rattle.rules.specs.Stamp.{Parsed, parse_stamp, encode, read_stamp}
use Rattle.rules.specs.Print.{length_printed}
use Rattle.rules.proofs.Answers.{not_answer}
use Rattle.outcomes.specs.Refusals.{has_place, is_at, OnlyRefuses}
use Rattle.outcomes.proofs.Refusals.{encode_only, only_those}
use Rattle.versions.specs.Versions.{Table, Accepted, read_by, shown, older_refuses_stamp, older_refuses_count, older_refuses_time}
use Rattle.versions.specs.Places.{of_text, TextRefusedAlike, WithoutPlace, NamedHaveNoPlace}
use Rattle.versions.proofs.Lists.{all_among}
use Rattle.versions.proofs.Demand3.{through_two}

-- the numbers with which encoding refuses are none of a text's
text_refused : (a : Answer Parsed) (p : Partitions) (r : Numbered) → among r.number of_text ≡ true → and_then a (encode p) ≡ refused r → a ≡ refused r
unfolding and_then has_place among all
text_refused (answer x) p r h e =
    let other = all_among (λ k. not (among k of_text)) older_refuses_stamp r.number refl (encode_only {places = has_place} {ks = older_refuses_stamp} refl refl refl refl p x r e).number in
    absurd (not_both h (not-true (among r.number of_text) other))
text_refused (refused q) p r h e = let same : q ≡ r = cc in rw same

-- a text is refused by the layout's moduli and offsets
module _ (t : Table) (ok : Accepted t) (s : List ℕ) (r : Numbered) where
  to_parse : among r.number of_text ≡ true → read_by t s ≡ refused r → parse_stamp (moduli_of t.layout) (offsets_of t.layout) s ≡ refused r
  unfolding read_stamp
  to_parse h e = text_refused _ t.partitions r h (sym (through_two t ok _) ∙ e)

  from_parse : parse_stamp (moduli_of t.layout) (offsets_of t.layout) s ≡ refused r → read_by t s ≡ refused r
  unfolding read_stamp and_then
  from_parse e = through_two t ok _ ∙ rw e

pub text_refused_alike : TextRefusedAlike
text_refused_alike older newer was is n moduli offsets s r h =
    let ms : moduli_of newer.layout ≡ moduli_of older.layout = rw n moduli in
    let os : offsets_of newer.layout ≡ offsets_of older.layout = rw n offsets in
    (λ e. from_parse newer is s r (rw (ms, os) (to_parse older was s r h e)), λ e. from_parse older was s r (rw (← ms, ← os) (to_parse newer is s r h e)))

no_place : (p : Option ℕ) → is_at p ≡ false → p ≡ None
no_place None h = refl
no_place (Some i) h = absurd (true≢false h)

without_place : {A : Type 0} {ks : List ℕ} (numbers : List ℕ) {a : Answer A} → all (λ k. not (has_place k)) numbers ≡ true → OnlyRefuses has_place ks a → WithoutPlace numbers a
without_place numbers h f r e m = no_place r.place ((f r e).place ∙ not-true (has_place r.number) (all_among _ numbers r.number h m))

shown_refused : (a : Answer (List ℕ)) (b : List ℕ) (r : Numbered) → shown a b ≡ refused r → a ≡ refused r
unfolding shown and_then length_printed
shown_refused (answer s) b r e = absurd (not_answer (sym e))
shown_refused (refused q) b r e = cc

pub named_have_no_place : (t : Table) → NamedHaveNoPlace t
unfolding has_place among all
named_have_no_place t =
    record {
      reading = λ s. without_place older_refuses_stamp refl (only_those.stamp t.layout t.partitions s);
      printing = λ e b r h. without_place older_refuses_count refl (only_those.print_stamp_lem t.layout t.partitions e _) r (shown_refused _ b r h);
      time_of_lem = λ e. without_place older_refuses_count refl (only_those.time_of_lem t.layout t.partitions t.segments e);
      count_at_lem = λ time. without_place older_refuses_time refl (only_those.count_at_lem t.layout t.partitions t.segments time);
    }
