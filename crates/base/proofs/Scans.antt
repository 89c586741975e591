-- What the scans of specs/Scans.antt find. Every use of a scan goes by these laws and none unfolds it.
--     all_at, all_from            `all_below p n` and each number below n
--     all_out                     one number that fails
--     some_at, some_none          `some_below p n` and each number below n
--     first_found, first_missing, first_is, first_none     `first_below`
--     first_not_found, first_not_missing, first_not_is, first_not_none     `first_not`
--     last_found, last_is, last_none         `last_below`
--     sum_next, sum_same, sum_up  `sum_below`
use Prim.Native.Nat.{ℕ, zero, suc, ◌+◌, ◌≤◌, ◌<◌}
use mathlib.Core.Path.{◌≡◌, refl, sym, subst, ◌∙◌}
use mathlib.Core.Bool.{Bool, true, false, not, cond}
use mathlib.Core.Option.{Option, none, some, none-ne-some, some-ne-none}
use mathlib.Core.Logic.{◌⊎◌, inl, inr, ⊎_elim}
use native.Mathlib.Nat.{eq-or-lt_of_le, le_refl}
use native.Mathlib.Numerals.{add-one}
use native.Mathlib.Omega.{arith}
use borrow.Author.Tests.{eqb-true, eqb-false, not-true, not-false}
use lib.Dec.{eqb}
use Rattle.base.specs.Scans.{all_below, some_below, first_below, first_not, is_none, last_below, or_else, sum_below}
use Rattle.base.proofs.Tests.{by_test, not_both, and_both, and_first, and_second, or_first, or_second, or_neither}

pub nothing : (o : Option ℕ) → is_none o ≡ true → o ≡ none
nothing none h = refl
nothing (some i) h = absurd (not_both h refl)

-- a fact of each number below n and of n is one of each number below n + 1
below_suc : {A : ℕ → Type 0} {n : ℕ} → ((i : ℕ) → i < n → A i) → A n → (i : ℕ) → i < suc n → A i
below_suc {A} {n} f a i h = ⊎_elim (λ e. subst A (sym e) a) (λ l. f i l) (eq-or-lt_of_le (le_down h))
  where
    le_down : i < suc n → i ≤ n
    le_down l = omega arith

module _ (p : ℕ → Bool) where
  pub all_from : (n : ℕ) → ((i : ℕ) → i < n → p i ≡ true) → all_below p n ≡ true
  unfolding all_below
  all_from zero f = refl
  all_from (suc n) f = and_both (all_from n (λ i h. f i (omega arith))) (f n (omega arith))

  pub all_at : (n i : ℕ) → all_below p n ≡ true → i < n → p i ≡ true
  unfolding all_below
  all_at zero i h l = absurd (omega arith)
  all_at (suc n) i h l =
      below_suc {A = λ j. p j ≡ true} (λ j k. all_at n j (and_first (all_below p n) (p n) h) k) (and_second (all_below p n) (p n) h) i l

  pub all_start : all_below p 0 ≡ true
  unfolding all_below
  all_start = refl

  pub all_out : (n i : ℕ) → i < n → p i ≡ false → all_below p n ≡ false
  all_out n i l f = by_test (all_below p n) (λ t. absurd (not_both (all_at n i t l) f)) (λ e. e)

  pub some_start : some_below p 0 ≡ false
  unfolding some_below
  some_start = refl

  pub some_next : (n : ℕ) → some_below p n ≡ false → p n ≡ false → some_below p (n + 1) ≡ false
  unfolding some_below
  some_next n h f = rw add-one (or_neither h f)

  pub some_at : (n i : ℕ) → i < n → p i ≡ true → some_below p n ≡ true
  unfolding some_below
  some_at zero i l t = absurd (omega arith)
  some_at (suc n) i l t =
      by_test (eqb i n)
      (λ e. or_second (some_below p n) (subst (λ j. p j ≡ true) (eqb-true i n e) t))
      (λ e. or_first (p n) (some_at n i (lt_of_le_of_ne (eqb-false i n e)) t))
    where
      lt_of_le_of_ne : (i ≡ n → ⊥) → i < n
      lt_of_le_of_ne d = omega arith

  pub some_none : (n i : ℕ) → some_below p n ≡ false → i < n → p i ≡ false
  some_none n i h l = by_test (p i) (λ t. absurd (not_both (some_at n i l t) h)) (λ e. e)

  pub some_from_none : (n : ℕ) → ((i : ℕ) → i < n → p i ≡ false) → some_below p n ≡ false
  unfolding some_below
  some_from_none zero f = refl
  some_from_none (suc n) f = or_neither (some_from_none n (λ i h. f i (omega arith))) (f n (omega arith))

  -- what `first_below p n ≡ some i` says
  pub record First (n i : ℕ) : Type 0 where
    pub below : i < n
    pub holds : p i ≡ true
    pub before : (j : ℕ) → j < i → p j ≡ false

  pub first_none : (n : ℕ) → ((i : ℕ) → i < n → p i ≡ false) → first_below p n ≡ none
  unfolding first_below or_else
  first_none zero f = refl
  first_none (suc n) f = rw (first_none n (λ i h. f i (omega arith)), f n (omega arith))

  first_here : (n i : ℕ) → First n i → or_else (first_below p i) (p i) i ≡ some i
  unfolding or_else
  first_here n i w = rw (first_none i w.before, w.holds)

  pub first_is : (n i : ℕ) → First n i → first_below p n ≡ some i
  unfolding first_below or_else
  first_is zero i w = absurd (omega (arith, w.below))
  first_is (suc n) i w =
      by_test (eqb i n)
      (λ e. subst (λ m. or_else (first_below p m) (p m) m ≡ some i) (eqb-true i n e) (first_here (suc n) i w))
      (λ e. rw (first_is n i (record { below = less (eqb-false i n e) w.below; holds = w.holds; before = w.before })))
    where
      less : (i ≡ n → ⊥) → i < suc n → i < n
      less d l = omega arith

  -- the first is found, or there is none
  pub first_or : (n : ℕ) → ((i : ℕ) × First n i) ⊎ ((i : ℕ) → i < n → p i ≡ false)
  first_or zero = inr (λ i l. absurd (omega arith))
  first_or (suc n) =
      ⊎_elim
      (λ w. inl (w.0, record { below = grown w.1.below; holds = w.1.holds; before = w.1.before }))
      (λ f. by_test (p n)
      (λ t. inl (n, record { below = omega arith; holds = t; before = f }))
      (λ e. inr (below_suc {A = λ i. p i ≡ false} f e)))
      (first_or n)
    where
      grown : {i : ℕ} → i < n → i < suc n
      grown l = omega arith

  pub first_found : (n i : ℕ) → first_below p n ≡ some i → First n i
  first_found n i e =
      ⊎_elim
      (λ w. let same : w.0 ≡ i = cc (first_is n w.0 w.1) in subst (First n) same w.1)
      (λ f. absurd (none-ne-some i (sym (first_none n f) ∙ e)))
      (first_or n)

  pub first_missing : (n i : ℕ) → first_below p n ≡ none → i < n → p i ≡ false
  first_missing n i e l =
      ⊎_elim (λ w. absurd (some-ne-none w.0 (sym (first_is n w.0 w.1) ∙ e))) (λ f. f i l) (first_or n)

  -- what `last_below p n ≡ some i` says
  pub record Last (n i : ℕ) : Type 0 where
    pub below : i < n
    pub holds : p i ≡ true
    pub after : (j : ℕ) → i < j → j < n → p j ≡ false

  pub last_none : (n : ℕ) → ((i : ℕ) → i < n → p i ≡ false) → last_below p n ≡ none
  unfolding last_below
  last_none zero f = refl
  last_none (suc n) f = rw (f n (omega arith), last_none n (λ i h. f i (omega arith)))

  pub last_is : (n i : ℕ) → Last n i → last_below p n ≡ some i
  unfolding last_below
  last_is zero i w = absurd (omega (arith, w.below))
  last_is (suc n) i w =
      by_test (eqb i n)
      (λ e. here (eqb-true i n e))
      (λ e. rw (w.after n (less (eqb-false i n e) w.below) (omega arith), last_is n i (down (less (eqb-false i n e) w.below))))
    where
      less : (i ≡ n → ⊥) → i < suc n → i < n
      less d l = omega arith

      here : i ≡ n → cond (p n) (some n) (last_below p n) ≡ some i
      here e = rw (← e, w.holds)

      down : i < n → Last n i
      down l = record { below = l; holds = w.holds; after = λ j h k. w.after j h (omega arith) }

  pub last_or : (n : ℕ) → ((i : ℕ) × Last n i) ⊎ ((i : ℕ) → i < n → p i ≡ false)
  last_or zero = inr (λ i l. absurd (omega arith))
  last_or (suc n) =
      by_test (p n)
      (λ t. inl (n, record { below = omega arith; holds = t; after = λ j h k. absurd (omega arith) }))
      (λ e. ⊎_elim
      (λ w. inl (w.0, record { below = grown w.1.below; holds = w.1.holds; after = λ j h k. below_suc {A = λ m. w.0 < m → p m ≡ false} (λ m k' h'. w.1.after m h' k') (λ _. e) j k h }))
      (λ f. inr (below_suc {A = λ i. p i ≡ false} f e))
      (last_or n))
    where
      grown : {i : ℕ} → i < n → i < suc n
      grown l = omega arith

  pub last_found : (n i : ℕ) → last_below p n ≡ some i → Last n i
  last_found n i e =
      ⊎_elim
      (λ w. let same : w.0 ≡ i = cc (last_is n w.0 w.1) in subst (Last n) same w.1)
      (λ f. absurd (none-ne-some i (sym (last_none n f) ∙ e)))
      (last_or n)

-- the first of which p does not hold
module _ (p : ℕ → Bool) where
  -- what `first_not p n ≡ some i` says
  pub record FirstNot (n i : ℕ) : Type 0 where
    pub below : i < n
    pub fails_here : p i ≡ false
    pub before : (j : ℕ) → j < i → p j ≡ true

  pub first_not_none : (n : ℕ) → ((i : ℕ) → i < n → p i ≡ true) → first_not p n ≡ none
  unfolding first_not
  first_not_none n f = first_none (λ i. not (p i)) n (λ i h. rw (f i h))

  pub first_not_is : (n i : ℕ) → FirstNot n i → first_not p n ≡ some i
  unfolding first_not
  first_not_is n i w = first_is (λ i. not (p i)) n i (record { below = w.below; holds = rw w.fails_here; before = λ j h. rw (w.before j h) })

  pub first_not_missing : (n i : ℕ) → first_not p n ≡ none → i < n → p i ≡ true
  unfolding first_not
  first_not_missing n i e l = not-false (p i) (first_missing (λ i. not (p i)) n i e l)

  pub first_not_found : (n i : ℕ) → first_not p n ≡ some i → FirstNot n i
  unfolding first_not
  first_not_found n i e =
      let w = first_found (λ i. not (p i)) n i e in
      record { below = w.below; fails_here = not-true (p i) w.holds; before = λ j h. not-false (p j) (w.before j h) }

-- scans of two tests that agree below n
pub all_same : (p q : ℕ → Bool) (n : ℕ) → ((i : ℕ) → i < n → p i ≡ q i) → all_below p n ≡ all_below q n
unfolding all_below
all_same p q zero f = refl
all_same p q (suc n) f = rw (all_same p q n (λ i h. f i (omega arith)), f n (omega arith))

pub first_same : (p q : ℕ → Bool) (n : ℕ) → ((i : ℕ) → i < n → p i ≡ q i) → first_below p n ≡ first_below q n
unfolding first_below
first_same p q zero f = refl
first_same p q (suc n) f = rw (first_same p q n (λ i h. f i (omega arith)), f n (omega arith))

pub last_same : (p q : ℕ → Bool) (n : ℕ) → ((i : ℕ) → i < n → p i ≡ q i) → last_below p n ≡ last_below q n
unfolding last_below
last_same p q zero f = refl
last_same p q (suc n) f = rw (last_same p q n (λ i h. f i (omega arith)), f n (omega arith))

pub sum_same : (f g : ℕ → ℕ) (n : ℕ) → ((i : ℕ) → i < n → f i ≡ g i) → sum_below f n ≡ sum_below g n
unfolding sum_below
sum_same f g zero e = refl
sum_same f g (suc n) e = rw (sum_same f g n (λ i h. e i (omega arith)), e n (omega arith))

module _ (f : ℕ → ℕ) where
  pub sum_start : sum_below f 0 ≡ 0
  unfolding sum_below
  sum_start = refl

  pub sum_next : (n : ℕ) → sum_below f (n + 1) ≡ sum_below f n + f n
  unfolding sum_below
  sum_next n = rw add-one

  pub sum_first : (n : ℕ) → sum_below f (suc n) ≡ f 0 + sum_below (λ i. f (suc i)) n
  unfolding sum_below
  sum_first zero = omega arith
  sum_first (suc n) = rw (sum_first n) (omega arith)

  pub sum_up : (m n : ℕ) → m ≤ n → sum_below f m ≤ sum_below f n
  unfolding sum_below
  sum_up m zero h = let e : m ≡ 0 = omega arith in rw e (le_refl 0)
  sum_up m (suc n) h =
      ⊎_elim (λ e. rw e (le_refl _)) (λ l. bound (sum_up m n (omega arith))) (eq-or-lt_of_le h)
    where
      bound : sum_below f m ≤ sum_below f n → sum_below f m ≤ sum_below f n + f n
      bound b = omega arith
