-- Where a field ends: what the scan of a clock text knows before a byte, and the runs of blanks with a digit on both sides.
use Prim.Native.Nat.{ℕ, ◌+◌, ◌-◌, ◌≤◌, ◌<◌}
use mathlib.Core.Path.{◌≡◌}
use mathlib.Core.Bool.{Bool, true, false, ◌&&◌, ◌||◌}
use mathlib.Core.List.{List}
use lib.Dec.{leb, eqb}
use lib.ListN.{get_or}
use borrow.Author.Tests.{lt-ltb, lt-leb, le-leb, ltb-true, leb-true, leb-false, eqb-true, eqb-false}
use native.Mathlib.Omega.{arith}
use Rattle.base.specs.Scans.{all_of, some_below}
use Rattle.base.proofs.Tests.{by_test, not_both, and_both, and_first, and_second, or_first, or_second, or_neither, all_of_head, all_of_tail}
use Rattle.base.proofs.Scans.{all_at, all_from, some_at, some_from_none}
use Rattle.rules.specs.Text.{Before, edge, number, gap, is_digit, is_blank, is_mark, after_blank}
use Rattle.places.proofs.ByteKinds.{blank_no_digit, blank_no_mark, digit_no_mark}
use Rattle.places.proofs.Below.{below_next}
use Rattle.places.specs.Fields.{gap_between, ends_field}

module _ (s : List ℕ) (start : ℕ) where
  abbrev pub byte : ℕ → ℕ
  byte i = get_or s i 0

  -- the bytes after i and before j are blanks
  abbrev pub BlanksBetween : ℕ → ℕ → Type 0
  BlanksBetween i j = (m : ℕ) → i < m → m < j → is_blank (byte m) ≡ true

  -- what the scan knows before the byte at j
  abbrev pub Stands : ℕ → Before → Type 0
  Stands j edge = (i : ℕ) → start ≤ i → i < j → is_digit (byte i) ≡ true → BlanksBetween i j → ⊥
  Stands j number = (start < j) × (is_digit (byte (j - 1)) ≡ true)
  Stands j gap = (i : ℕ) × (start ≤ i) × (i + 1 < j) × (is_digit (byte i) ≡ true) × BlanksBetween i j

  record Gap (i j : ℕ) : Type 0 where
    left : is_digit (byte i) ≡ true
    right : is_digit (byte j) ≡ true
    apart : i + 1 < j
    blanks : BlanksBetween i j

  gap_facts : (i j : ℕ) → gap_between s i j ≡ true → Gap i j
  unfolding gap_between
  gap_facts i j h =
      let h1 = all_of_tail _ _ h in
      let h2 = all_of_tail _ _ h1 in
      let between_blank : (m : ℕ) → m < j → (leb m i || is_blank (byte m)) ≡ true = λ m b. all_at _ j m (all_of_head _ _ (all_of_tail _ _ h2)) b in
      record {
        left = all_of_head _ _ h;
        right = all_of_head _ _ h1;
        apart = ltb-true _ _ (all_of_head _ _ h2);
        blanks = λ m a b. rw (lt-leb m i a) at (between_blank m b);
      }

  gap_shown : (i j : ℕ) → Gap i j → gap_between s i j ≡ true
  unfolding gap_between all_of
  gap_shown i j w = rw (w.left, w.right, lt-ltb _ _ w.apart, all_from (λ m. leb m i || is_blank (byte m)) j between_blank)
    where
      between_blank : (m : ℕ) → m < j → (leb m i || is_blank (byte m)) ≡ true
      between_blank m b = by_test (leb m i) (λ t. or_first _ t) (λ f. or_second (leb m i) (w.blanks m (leb-false m i f) b))

  -- no such run ends at j
  no_run : (j : ℕ) → ((i : ℕ) → start ≤ i → i < j → Gap i j → ⊥) → some_below (λ i. leb start i && gap_between s i j) j ≡ false
  no_run j f =
      some_from_none (λ i. leb start i && gap_between s i j) j
      (λ i b. by_test (leb start i && gap_between s i j)
      (λ t. absurd (f i (leb-true start i (and_first (leb start i) (gap_between s i j) t)) b (gap_facts i j (and_second (leb start i) (gap_between s i j) t))))
      (λ e. e))

  abbrev pub is_gap : Before → Bool
  is_gap edge = false
  is_gap number = false
  is_gap gap = true

  -- a digit ends a field where a gap stands before it
  behind_run : (j : ℕ) (w : Before) → Stands j w → is_digit (byte j) ≡ true → some_below (λ i. leb start i && gap_between s i j) j ≡ is_gap w
  behind_run j edge h d = no_run j (λ i a b w. h i a b w.left w.blanks)
  behind_run j number h d =
      no_run j (λ i a b w. not_both h.1 (blank_no_digit (byte (j - 1)) (w.blanks (j - 1) (omega (arith, w.apart)) (omega (arith, b)))))
  behind_run j gap h d =
      some_at (λ i. leb start i && gap_between s i j) j h.0 (omega (arith, h.2))
      (and_both (le-leb start h.0 h.1) (gap_shown h.0 j (record { left = h.3; right = d; apart = h.2; blanks = h.4 })))

  -- the next byte: a digit, a mark, a blank
  pub after-digit : (j : ℕ) → start ≤ j → is_digit (byte j) ≡ true → Stands (j + 1) number
  after-digit j a d = let here : j + 1 - 1 ≡ j = omega arith in (omega arith, rw here d)

  pub after-mark : (j : ℕ) → is_mark (byte j) ≡ true → Stands (j + 1) edge
  after-mark j m i a b d f =
      by_test (eqb i j)
      (λ t. not_both m (rw (eqb-true i j t) at (digit_no_mark (byte i) d)))
      (λ n. not_both m (blank_no_mark (byte j) (f j (less (eqb-false i j n)) (omega arith))))
    where
      less : (i ≡ j → ⊥) → i < j
      less e = omega arith

  pub after-blank : (j : ℕ) (w : Before) → is_blank (byte j) ≡ true → Stands j w → Stands (j + 1) (after_blank w)
  unfolding after_blank
  after-blank j edge k h = λ i a b d f.
      by_test (eqb i j)
      (λ t. not_both d (rw (← eqb-true i j t) at (blank_no_digit (byte j) k)))
      (λ n. h i a (less i b (eqb-false i j n)) d (λ m x y. f m x (omega arith)))
    where
      less : (i : ℕ) → i < j + 1 → (i ≡ j → ⊥) → i < j
      less i b e = omega arith
  after-blank j number k h =
      (j - 1, omega (arith, h.0), omega (arith, h.0), h.1, λ m x y. let here : m ≡ j = omega arith in rw here k)
  after-blank j gap k h =
      (h.0, h.1, omega (arith, h.2), h.3, λ m x y. below_next (λ n. h.0 < n → is_blank (byte n) ≡ true) j (λ n z u. h.4 n u z) (λ _. k) m y x)

  pub ends_digit : (j : ℕ) (w : Before) → Stands j w → is_digit (byte j) ≡ true → ends_field s start j ≡ is_gap w
  unfolding ends_field
  ends_digit j w h d = rw (digit_no_mark (byte j) d) (behind_run j w h d)

  pub ends_mark : (j : ℕ) → is_mark (byte j) ≡ true → ends_field s start j ≡ true
  unfolding ends_field
  ends_mark j m = or_first _ m

  pub ends_blank : (j : ℕ) → is_blank (byte j) ≡ true → ends_field s start j ≡ false
  unfolding ends_field
  ends_blank j k = or_neither (blank_no_mark (byte j) k) (no_run j (λ i a b w. not_both w.right (blank_no_digit (byte j) k)))
