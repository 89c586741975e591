-- Where the first `/` of a text stands, and whether one stands behind a place.
use Prim.Native.Nat.{ℕ, zero, suc, ◌+◌, ◌≤◌, ◌<◌}
use mathlib.Core.Path.{◌≡◌, refl, sym, ◌∙◌}
use mathlib.Core.Bool.{Bool, true, false, cond}
use mathlib.Core.List.{List, [], ◌∷◌}
use mathlib.Core.Option.{none, some, none-ne-some}
use lib.Dec.{eqb, ltb}
use lib.ListN.{length, get_or, drop, drop_of_length-le}
use borrow.Author.Tests.{eqb-true, eq-eqb, ne_eqb, ltb-true, ltb-false}
use native.Mathlib.Omega.{arith}
use Rattle.base.specs.Scans.{among}
use Rattle.base.proofs.Lists.{drop_next}
use Rattle.base.proofs.Tests.{by_test, not_both, or_second}
use Rattle.base.proofs.Scans.{First, first_is, first_none}
use Rattle.rules.specs.Text.{is_allowed, not_allowed_from}
use Rattle.rules.specs.Stamp.{slash_in}

abbrev pub slash : List ℕ → ℕ → Bool
slash s i = eqb (get_or s i 0) 47

pub slash_first : (s : List ℕ) (i : ℕ) → First (slash s) (length s) i → slash_in s ≡ some i
unfolding slash_in
slash_first s i f = first_is (slash s) (length s) i f

pub slash_none : (s : List ℕ) → ((i : ℕ) → i < length s → slash s i ≡ false) → slash_in s ≡ none
unfolding slash_in
slash_none s f = first_none (slash s) (length s) f

-- `/` is no byte of a clock text
no_slash_byte : (b : ℕ) → is_allowed b ≡ true → eqb b 47 ≡ false
no_slash_byte b h = by_test (eqb b 47) (λ t. absurd (not_both (rw (eqb-true b 47 t) at h) refl)) (λ f. f)

-- so none stands where all bytes are allowed, nor before the first that is not
pub no_slash : (t : List ℕ) (i : ℕ) → not_allowed_from i t ≡ none → (k : ℕ) → k < length t → slash t k ≡ false
unfolding not_allowed_from
no_slash [] i h k l = absurd (omega arith)
no_slash (b ∷ t) i h k l =
    by_test (is_allowed b)
    (λ y. each k l (no_slash_byte b y) (no_slash t (i + 1) (rw y at h)))
    (λ n. absurd (none-ne-some i (sym (rw n at h))))
  where
    each : (k : ℕ) → k < length (b ∷ t) → eqb b 47 ≡ false → ((k : ℕ) → k < length t → slash t k ≡ false) → slash (b ∷ t) k ≡ false
    each zero l f g = f
    each (suc k) l f g = g k (omega arith)

pub no_slash_before : (t : List ℕ) (i j : ℕ) → not_allowed_from i t ≡ some j → (k : ℕ) → i + k < j → slash t k ≡ false
unfolding not_allowed_from
no_slash_before [] i j h k l = absurd (none-ne-some j h)
no_slash_before (b ∷ t) i j h k l =
    by_test (is_allowed b)
    (λ y. each k l (no_slash_byte b y) (no_slash_before t (i + 1) j (rw y at h)))
    (λ n. absurd (past (rw n at h)))
  where
    each : (k : ℕ) → i + k < j → eqb b 47 ≡ false → ((k : ℕ) → i + 1 + k < j → slash t k ≡ false) → slash (b ∷ t) k ≡ false
    each zero l f g = f
    each (suc k) l f g = g k (omega arith)

    past : some i ≡ some j → ⊥
    past q = let same : i ≡ j = cc in omega arith

-- one stands behind the place i, or none
module _ (s : List ℕ) (i : ℕ) where
  pub among_next : i < length s → (get_or s i 0 ≡ 47 → ⊥) → among 47 (drop i s) ≡ among 47 (drop (i + 1) s)
  unfolding among
  among_next l n = rw (drop_next s i 0 l, ne_eqb 47 (get_or s i 0) (λ e. n (sym e)))

  pub among_here : i < length s → get_or s i 0 ≡ 47 → among 47 (drop i s) ≡ true
  unfolding among
  among_here l e = rw (drop_next s i 0 l, e)

  pub among_past : length s ≤ i → among 47 (drop i s) ≡ false
  unfolding among
  among_past h = rw (drop_of_length-le s h)

-- a walk from the place i up to the place k
pub among_found : (s : List ℕ) (d i k : ℕ) → i + d ≡ k → k < length s → slash s k ≡ true → among 47 (drop i s) ≡ true
unfolding among
among_found s zero i k e l h = let same : i ≡ k = omega arith in rw same (among_here s k l (eqb-true _ _ h))
among_found s (suc d) i k e l h =
    rw (drop_next s i 0 (omega arith)) (or_second (eqb 47 (get_or s i 0)) (among_found s d (i + 1) k (omega arith) l h))

pub among_none : (s : List ℕ) (d i : ℕ) → length s ≤ i + d → ((k : ℕ) → k < length s → slash s k ≡ false) → among 47 (drop i s) ≡ false
among_none s zero i h f = among_past s i (omega arith)
among_none s (suc d) i h f =
    by_test (ltb i (length s))
    (λ t. among_next s i (ltb-true i (length s) t) (λ e. not_both (eq-eqb (get_or s i 0) 47 e) (f i (ltb-true i (length s) t))) ∙ among_none s d (i + 1) (omega arith) f)
    (λ n. among_past s i (ltb-false i (length s) n))

-- the ways out of asking for one
module _ (s : List ℕ) (front stop i : ℕ) (e : among 47 (drop stop s) ≡ among 47 (drop i s)) where
  pub found_front : i < length s → get_or s i 0 ≡ 47 → front ≡ cond (among 47 (drop stop s)) front stop
  found_front l h = rw (e, among_here s i l h)

  pub none_stop : length s ≤ i → stop ≡ cond (among 47 (drop stop s)) front stop
  none_stop h = rw (e, among_past s i h)

  pub walks : i < length s → (get_or s i 0 ≡ 47 → ⊥) → among 47 (drop stop s) ≡ among 47 (drop (i + 1) s)
  walks l n = e ∙ among_next s i l n
