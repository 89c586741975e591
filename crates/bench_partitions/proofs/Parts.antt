-- The ticks of one of n partitions, and of all.
use Prim.Native.Nat.{ℕ, ◌-◌, ◌*◌, ◌/◌, ◌≤◌, ◌<◌}
use native.Mathlib.Nat.{div-le_self, div-mul-le_self}
use native.Mathlib.Omega.{arith}

pub ticks_small : (n : ℕ) → (3145727999 - n) / n < 4294967295
ticks_small n = omega (arith, div-le_self (3145727999 - n) n)

pub ticks_of_all : (n : ℕ) → (3145727999 - n) / n * n ≤ 3145727999
ticks_of_all n = omega (arith, div-mul-le_self (3145727999 - n) n)
