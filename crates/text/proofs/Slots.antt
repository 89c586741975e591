-- The first n slots of the moduli and the offsets.
use Prim.Native.Nat.{ℕ, ◌≤◌}
use mathlib.Core.Path.{◌≡◌, sym, ◌∙◌}
use mathlib.Core.List.{List}
use lib.ListN.{length, take}
use lib.Seq.{length-take-le}
use native.Mathlib.Omega.{arith}

pub taken : (l : List ℕ) (n : ℕ) → n ≤ length l → n ≡ length (take n l)
taken l n h = sym (length-take-le n l h)

pub some_taken : (l : List ℕ) (n : ℕ) → n ≤ length l → 1 ≤ n → 1 ≤ length (take n l)
some_taken l n h k = omega (arith, length-take-le n l h)

pub both_taken : (a b : List ℕ) (n : ℕ) → n ≤ length a → n ≤ length b → length (take n b) ≡ length (take n a)
both_taken a b n h k = length-take-le n b k ∙ sym (length-take-le n a h)
