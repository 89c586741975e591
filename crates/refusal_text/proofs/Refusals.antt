-- A refusal put together of its fields.
use Rattle.rules.specs.Answer.{as_numbered, number_of, place_of}
use Rattle.rules.specs.declared.refusal.Refusal.{Refusal}
use Rattle.std.specs.Prelude.{Option}
use Prim.Native.Nat.{ℕ, ◌+◌, ◌≤◌}
use mathlib.Core.Path.{◌≡◌, ap, ◌∙◌}
use mathlib.Core.List.{List, [], ◌∷◌, ◌++◌, append_assoc}
use lib.ListN.{length}
use native.Mathlib.Omega.{arith}
use Rattle.decimal.specs.Writing.{Written}
use Rattle.decimal.proofs.LeftToRight.{written_then}
use Rattle.number_text.specs.Numbers.{decimal_of, longest_number}
use Rattle.command_rules.specs.Sentences.{sentence}
use Rattle.command_rules.specs.Fields.{place_text, refusal_text}
use Rattle.refusal_text.specs.Longest.{longest_sentence, longest_refusal}

-- the fields one behind the other
fields_join : (a b c : List ℕ) → ((a ++ (9 ∷ [])) ++ (b ++ (9 ∷ []))) ++ c ≡ a ++ (9 ∷ (b ++ (9 ∷ c)))
fields_join a b c = append_assoc (a ++ (9 ∷ [])) (b ++ (9 ∷ [])) c ∙ (append_assoc a (9 ∷ []) ((b ++ (9 ∷ [])) ++ c) ∙ ap (λ (x : List ℕ). a ++ (9 ∷ x)) (append_assoc b (9 ∷ []) c))

module _ (k : Refusal) (number : ℕ) (place : Option ℕ) (text : List ℕ) (after at numbered placed end r : ℕ) {entry first second third exit : List ℕ} (room : at + longest_refusal ≤ length entry)
    (d : number ≡ number_of k) (n : Written (decimal_of number ++ (9 ∷ [])) numbered at entry first) (a : numbered ≤ at + longest_number + 1)
    (e : place ≡ place_of k) (p : Written (place_text place ++ (9 ∷ [])) placed numbered first second) (b : placed ≤ numbered + 21)
    (f : text ≡ sentence number) (s : Written text end placed second third) (c : length text ≤ longest_sentence)
    (t : Written (after ∷ []) r end third exit) where
  pub refusal_put : Written (refusal_text (as_numbered k) ++ (after ∷ [])) r at entry exit
  unfolding refusal_text
  refusal_put =
      let two = written_then n p (omega arith) in
      let three = written_then two s (omega arith) in
      let all = written_then (rw (fields_join (decimal_of number) (place_text place) text) at three) t (omega (arith, s.ends)) in
      rw (← d, ← f, ← e) all
