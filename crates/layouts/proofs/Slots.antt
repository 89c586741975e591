-- The first n slots of an array: a walk along them, and their product apart from the first.
use Prim.Native.Nat.{ℕ, zero, suc, ◌+◌, ◌*◌, ◌≤◌, ◌<◌}
use mathlib.Core.Path.{◌≡◌, refl}
use mathlib.Core.List.{List, [], ◌∷◌, map}
use native.Mathlib.Omega.{arith}
use lib.ListN.{length, get_or, take, drop, length-take, drop_of_length-le}
use borrow.Author.Rules.{length_unmapped}
use lib.Seq.{length-take-le, get_or-take}
use Rattle.base.specs.Scans.{product}
use Rattle.base.proofs.Lists.{drop_next}

module _ (s : List ℕ) (n i : ℕ) where
  pub slots_next : n ≤ length s → i < n → drop i (take n s) ≡ (get_or s i 0 ∷ drop (i + 1) (take n s))
  slots_next h k = rw (drop_next (take n s) i 0 (rw (length-take-le n s h) k), get_or-take n s i 0 k)

  pub slots_end : n ≤ i → drop i (take n s) ≡ []
  slots_end h = drop_of_length-le (take n s) {i = i} (rw length-take (omega arith))

pub product_of_slots : (s : List ℕ) (n : ℕ) → 1 ≤ n → n ≤ length s → product (take n s) ≡ get_or s 0 0 * product (drop 1 (take n s))
unfolding product
product_of_slots s zero h k = absurd (omega arith)
product_of_slots [] (suc n) h k = absurd (omega arith)
product_of_slots (x ∷ s) (suc n) h k = refl

-- An array field of m slots, as its struct's value has it, has its first n within it.
pub slots_within : (s : List ℕ) (n m : ℕ) → length (map (λ (v : ℕ). v) s) ≡ m → n ≤ m → n ≤ length s
slots_within s n m e h = omega (arith, length_unmapped ℕ s m e)
