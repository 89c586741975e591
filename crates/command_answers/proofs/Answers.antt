-- The lines put together of their fields.
use Rattle.rules.specs.declared.refusal.Refusal.{Refusal}
use Rattle.std.specs.Prelude.{Result, Ok, Err}
use Prim.Native.Nat.{ℕ, ◌+◌, ◌≤◌}
use mathlib.Core.Path.{◌≡◌, refl, sym, ◌∙◌}
use mathlib.Core.Bool.{Bool, true, false}
use mathlib.Core.List.{List, [], ◌∷◌, ◌++◌, append_assoc}
use lib.ListN.{length, take, drop, length-append}
use lib.Seq.{take-append_seam}
use native.Mathlib.Omega.{arith}
use Rattle.rules.specs.declared.TimedStamp.{TimedStamp}
use Rattle.rules.specs.declared.Layout.{Layout}
use Rattle.rules.specs.Answer.{Answer, answer, refused, and_then, Numbered, as_numbered}
use Rattle.rules.specs.Partitions.{Partitions}
use Rattle.rules.specs.Print.{length_printed, buffer_after}
use Rattle.rules.specs.Examples.{bytes}
use Rattle.rules.proofs.Answers.{payload, not_answer}
use Rattle.decimal.specs.Writing.{Written}
use Rattle.decimal.proofs.LeftToRight.{written_same_length, written_then}
use Rattle.number_text.specs.Numbers.{decimal_of}
use Rattle.buffer_print.specs.Printed.{Printed}
use Rattle.command_rules.specs.Fields.{field, refusal_text}
use Rattle.command_rules.specs.Lines.{answered_line, print_by, both_fields, time_fields}
use Rattle.command_answers.specs.declared.Put.{Put}
use Rattle.command_answers.specs.Put.{longest_line, PutLine}

-- a text and byte 10
pub text-put : (s : List ℕ) (n at end next : ℕ) {entry first exit : List ℕ} → n ≤ 96 → at + longest_line ≤ length entry → Written s end at entry first → end ≡ at + n
    → Written (10 ∷ []) next end first exit → next ≡ end + 1
    → PutLine (answered_line (answer s)) (record { at = next; well = true }) at entry exit
unfolding answered_line
text-put s n at end next short room w q t e = record { text = written_then w t (omega arith); well = refl; short = omega arith }

-- a count, its time and its print
join : (a b c : List ℕ) → (a ++ (9 ∷ [])) ++ (b ++ c) ≡ (a ++ (9 ∷ b)) ++ c
join a b c = append_assoc a (9 ∷ []) (b ++ c) ∙ sym (append_assoc a (9 ∷ b) c)

pub fields-put : (seconds : Bool) (stamp : TimedStamp) (s : List ℕ) (n at place end next : ℕ) {entry first second exit : List ℕ} → n ≤ 96 → at + longest_line ≤ length entry
    → Written (both_fields seconds stamp ++ (9 ∷ [])) place at entry first → place ≤ at + 56 → Written s end place first second → end ≡ place + n
    → Written (10 ∷ []) next end second exit → next ≡ end + 1
    → PutLine (answered_line (answer (field (both_fields seconds stamp) s))) (record { at = next; well = true }) at entry exit
unfolding answered_line
fields-put seconds stamp s n at place end next short room b l w q t e =
    let same = written_same_length b (omega arith) in
    record {
      text = rw (join (both_fields seconds stamp) s (10 ∷ [])) at (written_then b (written_then w t (omega (arith, same))) (omega arith));
      well = refl;
      short = omega arith;
    }

pub counted-put : (count at next : ℕ) {entry exit : List ℕ} → Written (decimal_of count ++ (10 ∷ [])) next at entry exit → next ≤ at + 20 + 1
    → PutLine (answered_line (answer (decimal_of count))) (record { at = next; well = true }) at entry exit
unfolding answered_line
counted-put count at next w l = record { text = w; well = refl; short = omega arith }

pub refused-put : (k : Numbered) (at place next : ℕ) {entry first exit : List ℕ} → at + longest_line ≤ length entry
    → Written (114 ∷ 101 ∷ 102 ∷ 117 ∷ 115 ∷ 101 ∷ 100 ∷ 9 ∷ []) place at entry first → Written (refusal_text k ++ (10 ∷ [])) next place first exit → next ≤ place + 84
    → PutLine (answered_line (refused k)) (record { at = next; well = false }) at entry exit
unfolding answered_line bytes
refused-put k at place next room w v l = record { text = written_then w v (omega (arith, w.ends)); well = refl; short = omega (arith, w.ends) }

-- what a print answered
module _ (p : Answer (List ℕ)) (r : Result ℕ Refusal) (entry exit : List ℕ) (w : Printed p r entry exit) where
  printed-text : (n : ℕ) (x : Answer (List ℕ)) → p ≡ x → answer n ≡ length_printed x → exit ≡ buffer_after x entry → x ≡ answer (take n exit)
  unfolding length_printed buffer_after
  printed-text n (answer s) q l b = let e : n ≡ length s = payload l in rw (b, e, take-append_seam s (drop (length s) entry))
  printed-text n (refused k) q l b = absurd (not_answer (sym l))

  pub print_given : (n : ℕ) → r ≡ Ok n → p ≡ answer (take n exit)
  print_given n h = printed-text n p refl (rw h at w.answers) w.bytes

  fits : (n : ℕ) (x : Answer (List ℕ)) → answer n ≡ length_printed x → exit ≡ buffer_after x entry → n ≤ length exit
  unfolding length_printed buffer_after
  fits n (answer s) l b = let e : n ≡ length s = payload l in rw b (omega (arith, length-append s (drop (length s) entry)))
  fits n (refused k) l b = absurd (not_answer (sym l))

  pub print_fits : (n : ℕ) → r ≡ Ok n → n ≤ length exit
  print_fits n h = fits n p (rw h at w.answers) w.bytes

  pub print_short : (n : ℕ) → r ≡ Ok n → length exit ≡ 96 → n ≤ 96
  print_short n h e = omega (arith, print_fits n h)

  refused_as : (k : Numbered) (x : Answer (List ℕ)) → refused k ≡ length_printed x → x ≡ refused k
  unfolding length_printed
  refused_as k (answer s) l = absurd (not_answer l)
  refused_as k (refused j) l = cc

  pub print_refused : (k : Refusal) → r ≡ Err k → p ≡ refused (as_numbered k)
  print_refused k h = refused_as (as_numbered k) p (rw h at w.answers)

module _ (seconds : Bool) (l : Layout) (q : Partitions) (at : ℕ) {r : Put} {entry exit : List ℕ} where
  -- its print
  module _ (s : TimedStamp) (p : Result ℕ Refusal) (before after : List ℕ) (x : Printed (print_by l q s.count) p before after) where
    pub stamp_printed : (n : ℕ) → p ≡ Ok n → PutLine (answered_line (answer (field (both_fields seconds s) (take n after)))) r at entry exit
        → PutLine (answered_line (time_fields seconds l q s)) r at entry exit
    unfolding time_fields and_then
    stamp_printed n e w = rw (print_given (print_by l q s.count) p before after x n e) w

    pub stamp-unprinted : (k : Refusal) → p ≡ Err k → PutLine (answered_line (refused (as_numbered k))) r at entry exit → PutLine (answered_line (time_fields seconds l q s)) r at entry exit
    unfolding time_fields and_then
    stamp-unprinted k e w = rw (print_refused (print_by l q s.count) p before after x k e) w

-- a print alone
module _ (t : Answer (List ℕ)) (at : ℕ) {r : Put} {entry exit : List ℕ} (p : Result ℕ Refusal) (before after : List ℕ) (x : Printed t p before after) where
  pub print-put : (n : ℕ) → p ≡ Ok n → PutLine (answered_line (answer (take n after))) r at entry exit → PutLine (answered_line t) r at entry exit
  print-put n e w = rw (print_given t p before after x n e) w

  pub print-not-put : (k : Refusal) → p ≡ Err k → PutLine (answered_line (refused (as_numbered k))) r at entry exit → PutLine (answered_line t) r at entry exit
  print-not-put k e w = rw (print_refused t p before after x k e) w
