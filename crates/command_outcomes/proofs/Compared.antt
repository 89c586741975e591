-- The promises of specs/Compared.antt.
use Prim.Native.Nat.{ℕ}
use native.Mathlib.Omega.{arith}
use mathlib.Core.Path.{◌≡◌, refl}
use mathlib.Core.Bool.{Bool, true, false}
use mathlib.Core.List.{List, ◌∷◌}
use mathlib.Core.Logic.{⊎_elim}
use lib.Dec.{eqb}
use borrow.Author.Tests.{eq-eqb}
use Rattle.rules.specs.declared.TimedStamp.{TimedStamp}
use Rattle.rules.specs.Answer.{Answer, answer, refused, numbered, Numbered}
use Rattle.rules.specs.Partitions.{total_of}
use Rattle.rules.specs.Examples.{bytes}
use Rattle.rules.proofs.Answers.{payload, not_answer}
use Rattle.versions.specs.Versions.{Table, Agree, older_refuses_stamp}
use Rattle.versions.proofs.Equal.{eq_eq_z}
use Rattle.succession_rules.specs.OfTwo.{answered}
use Rattle.succession_rules.specs.Succession.{succeeds, succession}
use Rattle.succession_outcomes.proofs.Succession.{succession_means}
use Rattle.succession_outcomes.proofs.Horizon.{horizon_means}
use Rattle.command_rules.specs.Fields.{field, last_field, refusal_text}
use Rattle.command_rules.specs.Lines.{both_fields, both_line, refused_line, compare_line, line_by, line_of}
use Rattle.command_outcomes.specs.Compared.{compared_text, SaysSame, NotMisled, says_same, older_refuses, both_refuse, TwoWordsMislead, NoLineMisleads, SameBelowHorizon}
use Rattle.command_outcomes.proofs.Agreement.{answer_to, lines_agree, older_reads_below, newer_reads_below}
use Rattle.command_outcomes.proofs.Refused.{TenEleven, answers_pair}

module _ (seconds : Bool) where
  -- two answers that are one, and two refusals
  both_same : (a b : TimedStamp) → b ≡ a → SaysSame (compare_line seconds (answer a) (answer b)).text
  unfolding compare_line both_line
  both_same a b e = (last_field (both_fields seconds a), rw (e, eq-eqb a.count a.count refl, eq_eq_z a.time a.time refl))

  refused_both : (j k : Numbered) (t : Bool) → (t ≡ false → (j ≡ numbered 10) × (k ≡ numbered 11)) → NotMisled (refused_line j k t).text
  unfolding refused_line
  refused_both j k true h = says_same (_, refl)
  refused_both j k false h = both_refuse (rw ((h refl).0, (h refl).1))

  told : (a b : Answer TimedStamp) → Agree older_refuses_stamp a b → TenEleven a b → NotMisled (compare_line seconds a b).text
  unfolding compare_line
  told (answer a) (answer b) h w = says_same (both_same a b (payload (h.same a refl)))
  told (answer a) (refused k) h w = absurd (not_answer (h.same a refl))
  told (refused j) (answer b) h w = older_refuses j _ (h.refuses b j refl refl) refl
  told (refused j) (refused k) h w = refused_both j k (eqb j.number k.number) (w j k refl refl)

  one_answer : (a : Answer TimedStamp) → SaysSame (compare_line seconds a a).text
  unfolding compare_line refused_line
  one_answer (answer a) = both_same a a refl
  one_answer (refused k) = (field (bytes "refused") (last_field (refusal_text k)), rw (eq-eqb k.number k.number refl))

-- what is printed is the comparison of the two answers
printed : (hex seconds : Bool) (older newer : Table) (l : List ℕ) → compared_text hex seconds older newer l ≡ (compare_line seconds (answer_to hex older l) (answer_to hex newer l)).text
unfolding line_of line_by answer_to
printed false seconds older newer l = refl
printed true seconds older newer l = refl

-- a text begins with one byte
first_byte : {a b : ℕ} {s r : List ℕ} → (a ∷ s) ≡ (b ∷ r) → a ≡ b
first_byte e = cc

differs : (rest : List ℕ) → NotMisled (field (bytes "differ") rest) → ⊥
unfolding bytes
differs rest (says_same (r, e)) = let z : ◌≡◌ {A = ℕ} 100 115 = first_byte e in omega arith
differs rest (older_refuses k r h e) = let z : ◌≡◌ {A = ℕ} 100 111 = first_byte e in omega arith
differs rest (both_refuse e) = let z : ◌≡◌ {A = ℕ} 100 114 = first_byte e in omega arith

newer_refuses : (rest : List ℕ) → NotMisled (field (bytes "newer refuses") rest) → ⊥
unfolding bytes
newer_refuses rest (says_same (r, e)) = let z : ◌≡◌ {A = ℕ} 110 115 = first_byte e in omega arith
newer_refuses rest (older_refuses k r h e) = let z : ◌≡◌ {A = ℕ} 110 111 = first_byte e in omega arith
newer_refuses rest (both_refuse e) = let z : ◌≡◌ {A = ℕ} 110 114 = first_byte e in omega arith

pub two_words_mislead : TwoWordsMislead
two_words_mislead rest = (differs rest, newer_refuses rest)

pub no_line_misleads : NoLineMisleads
no_line_misleads older newer q hex seconds l =
    let said : succession older newer ≡ answered succeeds = cc in
    let means = succession_means older newer in
    let d = means.demand_3 said in
    let w = (horizon_means older newer).agree (total_of older.partitions) ((horizon_means older newer).whole said) in
    rw (printed hex seconds older newer l)
    (told seconds (answer_to hex older l) (answer_to hex newer l) (lines_agree older newer d hex l) (answers_pair older newer (means.yes said) d w hex l))

pub same_below_horizon : SameBelowHorizon
same_below_horizon older newer h is hex seconds l r b reads =
    let w = (horizon_means older newer).agree h is in
    let one : answer_to hex newer l ≡ answer_to hex older l = ⊎_elim (older_reads_below older newer h w hex l r (omega arith)) (newer_reads_below older newer h w hex l r (omega arith)) reads in
    rw (printed hex seconds older newer l, one) (one_answer seconds (answer_to hex older l))
