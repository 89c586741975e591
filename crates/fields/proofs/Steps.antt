-- The steps of the pass as the code takes them: one law for each way out.
use Rattle.rules.specs.declared.refusal.Refusal.{Refusal}
use Rattle.std.specs.Prelude.{Result}
use Rattle.rules.specs.declared.Reading.{Reading}
use Prim.Native.Nat.{ℕ, ◌+◌, ◌-◌, ◌*◌, ◌≤◌, ◌<◌, min}
use mathlib.Core.Path.{◌≡◌, refl, sym, ap, ◌∙◌}
use mathlib.Core.Bool.{Bool, true, false, cond, not, ◌&&◌, ◌||◌}
use mathlib.Core.List.{List}
use lib.Dec.{leb}
use lib.ListN.{length, get_or, drop, drop_of_length-le}
use borrow.Author.Tests.{lt-ltb, le-ltb, leb-true, eq-eqb, ne_eqb}
use native.Mathlib.Omega.{arith}
use Rattle.base.proofs.Lists.{drop_next}
use Rattle.base.proofs.Tests.{and_first, and_second, or_first, or_second, or_neither}
use Rattle.base.specs.Scans.{product}
use Rattle.rules.specs.Answer.{refused, refuse, placed, Numbered, answer_of}
use Rattle.rules.specs.Text.{Before, edge, number, gap, is_digit, is_mark, is_blank, is_allowed}
use Rattle.rules.specs.Stamp.{stands_in_front}
use Rattle.fields.specs.declared.Fault.{Fault}
use Rattle.fields.specs.declared.Fault.TheVariants as Faults
use Rattle.fields.specs.declared.Pass.{Pass}
use Rattle.fields.specs.declared.Scanned.{Scanned}
use Rattle.fields.specs.Pass.{sum_cap, or_fault, begun, sum_with, fault_with, found_with, surplus_in, digit_in, with_blank, before, fresh, next, with_digit, step, scan_from, front_step, front_scan_from, count_of, sum_in, total}

pub digit_at_least : (b : ℕ) (t : Bool) → t ≡ is_digit b → t ≡ true → 48 ≤ b
digit_at_least b t e h = leb-true 48 b (and_first (leb 48 b) (leb b 57) (sym e ∙ h))

module _ {A : Type 0} {b : Bool} (x y : A) where
  pub cond_yes : b ≡ true → cond b x y ≡ x
  cond_yes t = rw t

  pub cond_no : b ≡ false → cond b x y ≡ y
  cond_no f = rw f

module _ (ms os : List ℕ) (end : ℕ) where
  pub next_surplus : (p r : Pass) (i : ℕ) → length ms ≤ p.field → i ≡ surplus_in end p → r ≡ fresh (length ms) 0 Faults.Surplus i → r ≡ next ms os end p
  unfolding next
  next_surplus p r i h f e = rw (le-ltb p.field (length ms) h, ← f) e

  pub next_last : (p r : Pass) → p.field < length ms → length ms ≤ p.field + 1 → r ≡ fresh (length ms) 0 Faults.None 0 → r ≡ next ms os end p
  unfolding next
  next_last p r l h e = rw (lt-ltb p.field (length ms) l, le-ltb (p.field + 1) (length ms) h) e

  pub next_one : (p r : Pass) (a : ℕ) (b : Fault) (i : ℕ) → p.field + 1 < length ms → a ≡ sum_with p (get_or ms p.field 0) (get_or os p.field 0) → b ≡ fault_with p (get_or os p.field 0) → i ≡ found_with p
      → r ≡ fresh (p.field + 1) a b i → r ≡ next ms os end p
  unfolding next
  next_one p r a b i h f g k e = rw (lt-ltb p.field (length ms) (omega arith), lt-ltb (p.field + 1) (length ms) h, ← f, ← g, ← k) e

  pub after-gap : (p q : Pass) (i d : ℕ) → p.gap ≡ true → q ≡ next ms os end p → digit_in q i d ≡ with_digit ms os end p i d
  unfolding with_digit
  after-gap p q i d g e = ap (λ (x : Pass). digit_in x i d) (e ∙ sym (cond_yes _ _ g))

  pub no_gap : (p : Pass) (i d : ℕ) → p.gap ≡ false → digit_in p i d ≡ with_digit ms os end p i d
  unfolding with_digit
  no_gap p i d g = ap (λ (x : Pass). digit_in x i d) (sym (cond_no _ _ g))

  -- the loop's turns, and its ways out
  module _ (s : List ℕ) (p : Pass) (i : ℕ) (h : i < length s) (w : Scanned) (e : w ≡ scan_from ms os end p i (drop i s)) where
    turn : (q : Pass) → is_allowed (get_or s i 0) ≡ true → q ≡ step ms os end p i (get_or s i 0) → w ≡ scan_from ms os end q (i + 1) (drop (i + 1) s)
    unfolding scan_from
    turn q a f = rw f (rw (drop_next s i 0 h, a) at e)

    module _ (t : Bool) (d : t ≡ is_digit (get_or s i 0)) where
      pub turn_digit : (q : Pass) → t ≡ true → q ≡ with_digit ms os end p i (get_or s i 0 - 48) → w ≡ scan_from ms os end q (i + 1) (drop (i + 1) s)
      unfolding step
      turn_digit q y f = turn q (rw (sym d ∙ y)) (f ∙ sym (cond_yes _ _ (sym d ∙ y)))

      module _ (n : t ≡ false) (u : Bool) (m : u ≡ is_mark (get_or s i 0)) where
        pub turn_mark : (q : Pass) → u ≡ true → q ≡ next ms os end p → w ≡ scan_from ms os end q (i + 1) (drop (i + 1) s)
        unfolding step
        turn_mark q y f =
            turn q (or_second (is_digit (get_or s i 0) || is_blank (get_or s i 0)) (sym m ∙ y)) (f ∙ sym (cond_no _ _ (sym d ∙ n) ∙ cond_yes _ _ (sym m ∙ y)))

        pub turn_blank : (q : Pass) → u ≡ false → get_or s i 0 ≡ 32 → q ≡ with_blank p → w ≡ scan_from ms os end q (i + 1) (drop (i + 1) s)
        unfolding step
        turn_blank q y b f =
            turn q (or_first (is_mark (get_or s i 0)) (or_second (is_digit (get_or s i 0)) (eq-eqb (get_or s i 0) 32 b)))
            (f ∙ sym (cond_no _ _ (sym d ∙ n) ∙ cond_no _ _ (sym m ∙ y)))

        pub stop : u ≡ false → (get_or s i 0 ≡ 32 → ⊥) → ◌≡◌ {A = Scanned} (record { at = i; pass = p }) w
        unfolding scan_from
        stop y b = sym (rw (drop_next s i 0 h, or_neither (or_neither (sym d ∙ n) (ne_eqb (get_or s i 0) 32 b)) (sym m ∙ y)) at e)

  pub ended : (s : List ℕ) (p : Pass) (i : ℕ) (w : Scanned) → length s ≤ i → w ≡ scan_from ms os end p i (drop i s) → ◌≡◌ {A = Scanned} (record { at = i; pass = p }) w
  unfolding scan_from
  ended s p i w h e = sym (rw (drop_of_length-le s h) at e)

-- what a front part may have next
pub stands_blank : (w : Before) (b : ℕ) → b ≡ 32 → stands_in_front w b ≡ true
unfolding stands_in_front
stands_blank edge b e = rw e
stands_blank number b e = rw e
stands_blank gap b e = rw e

pub stands_other : (p : Pass) (b : ℕ) → (b ≡ 32 → ⊥) → stands_in_front (before p) b ≡ (not p.gap && is_digit b)
unfolding before
stands_other p b n = either p.gap p.present
  where
    either : (g t : Bool) → stands_in_front (cond g gap (cond t number edge)) b ≡ (not g && is_digit b)
    either true t = unfold stands_in_front in ne_eqb b 32 n
    either false true = unfold stands_in_front in rw (ne_eqb b 32 n)
    either false false = unfold stands_in_front in rw (ne_eqb b 32 n)

-- the same of a front part
module _ (s : List ℕ) (p : Pass) (i : ℕ) (h : i < length s) (w : Scanned) (e : w ≡ front_scan_from p i (drop i s)) where
  front_turn : (q : Pass) → stands_in_front (before p) (get_or s i 0) ≡ true → q ≡ front_step p i (get_or s i 0) → w ≡ front_scan_from q (i + 1) (drop (i + 1) s)
  unfolding front_scan_from
  front_turn q a f = rw f (rw (drop_next s i 0 h, a) at e)

  pub front_turn_blank : (q : Pass) → get_or s i 0 ≡ 32 → q ≡ with_blank p → w ≡ front_scan_from q (i + 1) (drop (i + 1) s)
  unfolding front_step
  front_turn_blank q b f = front_turn q (stands_blank (before p) (get_or s i 0) b) (f ∙ rw b)

  module _ (n : get_or s i 0 ≡ 32 → ⊥) (t : Bool) (d : t ≡ (not p.gap && is_digit (get_or s i 0))) where
    pub front_turn_digit : (q : Pass) → t ≡ true → q ≡ digit_in p i (get_or s i 0 - 48) → w ≡ front_scan_from q (i + 1) (drop (i + 1) s)
    unfolding front_step
    front_turn_digit q y f =
        front_turn q (stands_other p (get_or s i 0) n ∙ sym d ∙ y) (f ∙ sym (cond_yes _ _ (and_second (not p.gap) _ (sym d ∙ y))))

    pub front_digit_at_least : t ≡ true → 48 ≤ get_or s i 0
    front_digit_at_least y = digit_at_least (get_or s i 0) _ refl (and_second (not p.gap) _ (sym d ∙ y))

    pub front_stop : t ≡ false → ◌≡◌ {A = Scanned} (record { at = i; pass = p }) w
    unfolding front_scan_from
    front_stop y = sym (rw (drop_next s i 0 h, stands_other p (get_or s i 0) n, sym d ∙ y) at e)

pub front_begun : (s : List ℕ) (p : Pass) → p ≡ begun → front_scan_from begun 0 s ≡ front_scan_from p 0 (drop 0 s)
front_begun s p e = ap (λ (q : Pass). front_scan_from q 0 s) (sym e)

pub front_ended : (s : List ℕ) (p : Pass) (i : ℕ) (w : Scanned) → length s ≤ i → w ≡ front_scan_from p i (drop i s) → ◌≡◌ {A = Scanned} (record { at = i; pass = p }) w
unfolding front_scan_from
front_ended s p i w h e = sym (rw (drop_of_length-le s h) at e)

-- the ways out at the end
pub sum_capped : (p : Pass) (m o a : ℕ) → a ≡ sum_with p m o → a ≤ sum_cap
unfolding sum_with
sum_capped p m o a e = omega arith

module _ (ms os : List ℕ) (end : ℕ) (p : Pass) where
  pub total_surplus : (k : Numbered) (i : ℕ) → length ms ≤ p.field → i ≡ surplus_in end p → k ≡ placed 7 i → refused k ≡ total ms os end p
  unfolding total
  total_surplus k i h e f = rw (le-ltb p.field (length ms) h, ← e) (ap refused f)

  module _ (l : p.field < length ms) (f : Fault) (e : f ≡ fault_with p (get_or os p.field 0)) where
    pub total_missing : f ≡ Faults.Missing → refuse 6 ≡ total ms os end p
    unfolding total or_fault
    total_missing n = rw (lt-ltb p.field (length ms) l, ← e, n)

    pub total_count : (r : Result Reading Refusal) (a : ℕ) → f ≡ Faults.None → a ≡ sum_with p (get_or ms p.field 0) (get_or os p.field 0) → answer_of r ≡ count_of end (min (a * product (drop (p.field + 1) ms)) sum_cap) → answer_of r ≡ total ms os end p
    unfolding total sum_in or_fault
    total_count r a n g c = rw (lt-ltb p.field (length ms) l, ← e, n, ← g) c

    module _ (k : Numbered) (i : ℕ) (d : i ≡ found_with p) where
      pub total_below : f ≡ Faults.Below → k ≡ placed 8 i → refused k ≡ total ms os end p
      unfolding total or_fault
      total_below n c = rw (lt-ltb p.field (length ms) l, ← e, n, ← d) (ap refused c)

      pub total_above : f ≡ Faults.Above → k ≡ placed 9 i → refused k ≡ total ms os end p
      unfolding total or_fault
      total_above n c = rw (lt-ltb p.field (length ms) l, ← e, n, ← d) (ap refused c)

      pub total_one_more : f ≡ Faults.Surplus → k ≡ placed 7 i → refused k ≡ total ms os end p
      unfolding total or_fault
      total_one_more n c = rw (lt-ltb p.field (length ms) l, ← e, n, ← d) (ap refused c)
