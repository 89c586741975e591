-- The length of a long array. It is stated over any length: to count out a given one takes the checker long, and much of its stack.
use Prim.Native.Nat.{ℕ}
use mathlib.Core.Path.{◌≡◌, sym}
use lib.ListN.{length, replicate, length-replicate}

pub room_length : (n b : ℕ) → n ≡ length (replicate n b)
room_length n b = sym (length-replicate n b)
