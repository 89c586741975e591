-- The two walks along the first n slots: what is left from slot i has the answer of the whole.
use Prim.Native.Nat.{ℕ, ◌+◌, ◌*◌, ◌≤◌, ◌<◌, min}
use mathlib.Core.Path.{◌≡◌, refl, sym, ◌∙◌}
use mathlib.Core.Bool.{Bool, true, false}
use mathlib.Core.List.{List}
use native.Mathlib.Nat.{one-mul, mul-one, mul_assoc}
use native.Mathlib.Omega.{arith}
use lib.Dec.{leb}
use lib.ListN.{length, get_or, take, drop}
use borrow.Author.Tests.{le-leb, lt-leb}
use Rattle.base.specs.Scans.{all, product}
use Rattle.wide.proofs.Capped.{capped_mul}
use Rattle.layouts.proofs.Slots.{slots_next, slots_end}

-- r is the answer of the whole
pub record AllFrom (r : Bool) (xs : List ℕ) (n limit i : ℕ) : Type 0 where
  pub within : n ≤ length xs
  pub same : r ≡ all (λ x. leb x limit) (drop i (take n xs))

pub all_start : (xs : List ℕ) (n limit : ℕ) → n ≤ length xs → AllFrom (all (λ x. leb x limit) (take n xs)) xs n limit 0
all_start xs n limit h = record { within = h; same = refl }

module _ (r : Bool) (xs : List ℕ) (n limit i : ℕ) (w : AllFrom r xs n limit i) where
  -- slot i, wherever the code has it from
  module _ (l : i < n) (x : ℕ) (e : x ≡ get_or xs i 0) where
    pub all_turn : x ≤ limit → AllFrom r xs n limit (i + 1)
    unfolding all
    all_turn h = record { within = w.within; same = w.same ∙ rw (slots_next xs n i w.within l, ← e, le-leb _ _ h) }

    pub all_stop : limit < x → false ≡ r
    unfolding all
    all_stop h = sym (w.same ∙ rw (slots_next xs n i w.within l, ← e, lt-leb _ _ h))

  pub all_end : n ≤ i → true ≡ r
  unfolding all
  all_end h = sym (w.same ∙ rw (slots_end xs n i h))

-- p is the whole product; a is that of what stands before i, unless it is above the cap
pub record ProductFrom (p : ℕ) (xs : List ℕ) (n cap i a : ℕ) : Type 0 where
  pub within : n ≤ length xs
  pub capped : a ≤ cap
  pub same : min p cap ≡ min (a * product (drop i (take n xs))) cap

pub product_start : (xs : List ℕ) (n cap : ℕ) → n ≤ length xs → 1 ≤ cap → ProductFrom (product (drop 1 (take n xs))) xs n cap 1 1
product_start xs n cap h k = record { within = h; capped = k; same = rw one-mul }

module _ (p : ℕ) (xs : List ℕ) (n cap i a : ℕ) (w : ProductFrom p xs n cap i a) where
  pub product_turn : i < n → (x : ℕ) → x ≡ get_or xs i 0 → (b : ℕ) → b ≡ min (a * x) cap → ProductFrom p xs n cap (i + 1) b
  unfolding product
  product_turn l x e b h =
      record { within = w.within; capped = omega arith; same = w.same ∙ rw (slots_next xs n i w.within l, ← e, h, capped_mul, mul_assoc) }

  pub product_end : n ≤ i → a ≡ min p cap
  unfolding product
  product_end h = sym (w.same ∙ rw (slots_end xs n i h, mul-one) (omega (arith, w.capped)))
