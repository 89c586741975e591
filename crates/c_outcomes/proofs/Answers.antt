-- The greatest number that each inner call answers.
use Prim.Native.Nat.{ℕ, ◌≤◌}
use mathlib.Core.Path.{◌≡◌, refl, subst}
use mathlib.Core.Bool.{Bool, true, false}
use mathlib.Core.List.{List, [], ◌∷◌}
use mathlib.Core.Option.{Option, none, some}
use lib.Dec.{leb}
use lib.IntN.{ℤ}
use native.Mathlib.Nat.{le_trans}
use native.Mathlib.Omega.{arith}
use borrow.Author.Tests.{leb-true}
use Rattle.rules.specs.Limits.{largest_count, largest_total}
use Rattle.rules.specs.declared.Layout.{Layout}
use Rattle.rules.specs.declared.Reading.{Reading}
use Rattle.rules.specs.declared.CountAtTime.{CountAtTime}
use Rattle.rules.specs.Answer.{Answer, answer, fails_at, unless, unless_at}
use Rattle.rules.specs.Layout.{layout_ok, product_of, unit_of}
use Rattle.rules.specs.Partitions.{Partitions, total_of, partitions_fault}
use Rattle.rules.specs.Segments.{Segments}
use Rattle.rules.specs.Accepted.{accepted}
use Rattle.rules.specs.Text.{Field, each_field, fields_count, bytes_count, parse_text, read_text, sum_of}
use Rattle.rules.specs.Stamp.{read_stamp}
use Rattle.rules.specs.Message.{read_message, accepted_message, text_in}
use Rattle.rules.specs.Time.{not_beyond, count_on, count_in, count_at}
use Rattle.rules.proofs.Answers.{payload, not_answer, unless-test, unless-rest, unless-at-none, unless-at-rest}
use Rattle.rules.proofs.Accepted.{partitions_facts}
use Rattle.outcomes.proofs.StampWithin.{stamp_within}

each-rest : (fs : List Field) (os : List ℕ) (a : Answer Reading) (r : Reading) → each_field fs os a ≡ answer r → a ≡ answer r
unfolding each_field
each-rest [] os a r h = h
each-rest (f ∷ fs) [] a r h = h
each-rest (f ∷ fs) (o ∷ os) a r h = each-rest fs os a r (unless-at-rest 8 _ _ r (unless-at-rest 9 _ _ r h))

fails-nowhere : (end : ℕ) (t : Bool) → fails_at end t ≡ none → t ≡ true
unfolding fails_at
fails-nowhere end true h = refl
fails-nowhere end false h = let z : ◌≡◌ {A = ℕ} 0 1 = cc in absurd (omega arith)

fields-small : (ms os : List ℕ) (end : ℕ) (fs : List Field) (r : Reading) → fields_count ms os end fs ≡ answer r → r.count ≤ largest_count
unfolding fields_count
fields-small ms os end fs r h =
    let sum = each-rest fs os _ r (unless-rest 6 _ _ r (unless-at-rest 7 _ _ r h)) in
    let small = fails-nowhere end (leb (sum_of fs ms os) largest_count) (unless-at-none 9 _ _ r sum) in
    subst (λ (x : Reading). x.count ≤ largest_count) (payload (unless-at-rest 9 _ _ r sum)) (leb-true (sum_of fs ms os) largest_count small)

pub text-small : (l : Layout) (s : List ℕ) (r : Reading) → read_text l s ≡ answer r → r.count ≤ largest_count
unfolding read_text parse_text bytes_count
text-small l s r h = fields-small _ _ _ _ r (unless-at-rest 5 _ _ r (unless-rest 4 _ _ r (unless-rest 1 _ _ r h)))

total-small : {A : Type 0} (l : Layout) (p : Partitions) (a : Answer A) (v : A) → unless 1 (layout_ok l) (unless_at 2 (partitions_fault (product_of l) p) a) ≡ answer v → total_of p ≤ largest_total
total-small l p a v h = (partitions_facts (product_of l) p (rw (unless-at-none 2 (partitions_fault (product_of l) p) _ v (unless-rest 1 (layout_ok l) _ v h)))).total

pub stamp-small : (l : Layout) (p : Partitions) (s : List ℕ) (r : Reading) → read_stamp l p s ≡ answer r → r.count ≤ largest_total
unfolding read_stamp
stamp-small l p s r h = le_trans (leb-true r.count (total_of p) (stamp_within l p s r h)) (total-small l p _ r h)

pub message-small : (l : Layout) (p : Partitions) (m : List ℕ) (r : Reading) → read_message l p m ≡ answer r → r.count ≤ largest_total
unfolding read_message accepted_message
message-small l p m r h = stamp-small l p (text_in m) r (unless-rest 23 _ _ r (unless-rest 22 _ _ r (unless-rest 21 _ _ r h)))

beyond-small : (total c : ℕ) (a : CountAtTime) → not_beyond total c ≡ answer a → a.count ≤ total
unfolding not_beyond
beyond-small total c a h = subst (λ (x : CountAtTime). x.count ≤ total) (payload (unless-rest 14 _ _ a h)) (leb-true c total (unless-test 14 _ _ a h))

on-small : (unit total : ℕ) (g : Segments) (t : ℤ) (o : Option ℕ) (a : CountAtTime) → count_on unit total g t o ≡ answer a → a.count ≤ total
unfolding count_on
on-small unit total g t (some i) a h = beyond-small total _ a h
on-small unit total g t none a h = absurd (not_answer h)

pub count_small : (l : Layout) (p : Partitions) (g : Segments) (t : ℤ) (a : CountAtTime) → count_at l p g t ≡ answer a → a.count ≤ largest_total
unfolding count_at accepted count_in
count_small l p g t a h =
    let table = unless-at-rest 3 _ _ a (unless-at-rest 2 _ _ a (unless-rest 1 _ _ a h)) in
    le_trans (on-small (unit_of l) (total_of p) g t _ a (unless-rest 14 _ _ a table)) (total-small l p _ a h)
